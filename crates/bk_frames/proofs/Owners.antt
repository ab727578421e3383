-- Whose each block is: holes, and the tables once a segment is put or dropped.
use Rattle.std.proofs.Common.{◌≡◌, ◌≢◌, ◌⊎◌, inl, inr, ℕ, ◌+◌, ◌-◌, ◌<◌, ◌≤◌, List, length, set}
use Rattle.std.proofs.Common.{Option, Some, None, refl, sym, ap, ◌∙◌, subst, arith}
use Rattle.std.specs.Prelude.{slice_get, option_map}
use Rattle.std.proofs.lemmas.Bool.{cases_lt}
use Rattle.std.proofs.lemmas.Option.{slice_get-get_or, same_Some}
use Rattle.bk_frames.specs.declared.table.Placed.{Placed}
use Rattle.bk_frames.specs.Extents.{AreApart, HasRoomAt}
use Rattle.bk_frames.specs.Table.{extent_at, place_of, extents_in, IsHeld, IsHole, IsMarked, IsOwned, IsTable}
use Rattle.bk_frames.proofs.Tables.{same_or_not, get-extents, stands, place_within, place-same, place-other}

-- a block that is below so many, is one of so many from one on, or is above them
pub parts : (b at n : ℕ) → ((b < at) ⊎ (at + n ≤ b)) ⊎ ((at ≤ b) × (b < at + n))
parts b at n = elim (cases_lt b at) [
  | inl below ↦ inl (inl below)
  | inr above ↦ elim (cases_lt b (at + n)) [
    | inl inside ↦ inr (above, inside)
    | inr past ↦ inl (inr past)
  ]
]

module _ (first : ℕ) (places : List (Option Placed)) (owners : List (Option ℕ)) (table : IsTable first places owners) where
  -- blocks that are nobody's are apart from each segment
  pub hole_apart : (k n : ℕ) → 1 ≤ n → IsHole owners k n → (s : ℕ) (p : Placed) → place_of places s ≡ Some p → AreApart (record { first = first + k; blocks = n }) (extent_at p)
  hole_apart k n some hole s p h = elim (cases_lt p.first (first + k + n)) [
    | inr past ↦ inl past
    | inl under ↦ elim (cases_lt (first + k) (p.first + p.blocks)) [
      | inr done ↦ inr done
      | inl over ↦ elim (cases_lt p.first (first + k)) [
        | inl low ↦ absurd (cc (sym (hole.free k (omega arith) (omega (arith, some))) ∙ own.blocks k (omega (arith, low)) over))
        | inr high ↦ absurd (cc (sym (hole.free (p.first - first) (omega (arith, high)) (omega (arith, high, under))) ∙ own.blocks (p.first - first) (omega (arith, high)) (omega (arith, high, own.some))))
      ]
    ]
  ]
    where
      own : IsOwned first owners s p
      own = table.owned s p h

  pub room_of : (size slots k n : ℕ) → length owners ≡ size → 1 ≤ n → IsHole owners k n → HasRoomAt (record { first = first; blocks = size; slots = slots; extents = extents_in places }) (first + k) n
  room_of size slots k n long some hole = record {
    above = omega arith;
    within = omega (arith, hole.within, long);
    apart = λ s e h. let (p, there, is) = stands places s e h in subst (AreApart (record { first = first + k; blocks = n })) is (hole_apart k n some hole s p there);
  }

  pub hole_of : (size slots at n k : ℕ) → length owners ≡ size → at ≡ first + k → HasRoomAt (record { first = first; blocks = size; slots = slots; extents = extents_in places }) at n → IsHole owners k n
  hole_of size slots at n k long is room = record {
    within = omega (arith, room.within, long, is);
    free = λ b low high. by b low high (slice_get owners b) refl;
  }
    where
      by : (b : ℕ) → k ≤ b → b < k + n → (o : Option (Option ℕ)) → slice_get owners b ≡ o → o ≡ Some None
      by b low high (Some None) h = refl
      by b low high None h =
          let there = slice_get-get_or owners b None (omega (arith, high, room.within, long, is)) in
          absurd (cc (sym h ∙ there))
      by b low high (Some (Some s)) h =
          let held = table.held b s h in
          let from = held.from in
          let to = held.to in
          let apart = room.apart s (extent_at held.place) (get-extents places s ∙ ap (option_map extent_at) held.there) in
          elim apart [
            | inl under ↦ absurd (omega (arith, under, from, high, is))
            | inr over ↦ absurd (omega (arith, over, to, low, is))
          ]

  module _ (new : List (Option ℕ)) (slot k n : ℕ) where
    -- a segment takes free blocks
    pub put-table : slot < length places → place_of places slot ≡ None → 1 ≤ n → n ≤ 128 → IsHole owners k n → IsMarked owners new k n (Some slot) → IsTable first (set places slot (Some (record { first = first + k; blocks = n }))) new
    put-table lt none some small hole marked = record { owned = λ s q h. owned s q (same_or_not s slot) h; held = λ b s h. held b s (parts b k n) h }
      where
        p : Placed
        p = record { first = first + k; blocks = n }

        after : List (Option Placed)
        after = set places slot (Some p)

        owned : (s : ℕ) (q : Placed) → (s ≡ slot) ⊎ (s ≢ slot) → place_of after s ≡ Some q → IsOwned first new s q
        owned s q (inl e) h =
            let is : p ≡ q = same_Some p q (sym (place-same places slot (Some p) lt) ∙ ap (place_of after) (sym e) ∙ h) in
            let long = marked.same_length in
            subst (IsOwned first new s) is (record {
              above = omega arith;
              some = some;
              small = small;
              within = omega (arith, hole.within, long);
              blocks = λ b low high. marked.inside b (omega (arith, low)) (omega (arith, high)) ∙ ap (λ x. Some (Some x)) (sym e);
            })
        owned s q (inr differ) h =
            let old = table.owned s q (sym (place-other places slot (Some p) s differ) ∙ h) in
            let long = marked.same_length in
            let within = old.within in record {
              above = old.above;
              some = old.some;
              small = old.small;
              within = omega (arith, within, long);
              blocks = λ b low high. apart b (old.blocks b low high) (parts b k n);
            }
          where
            apart : (b : ℕ) → slice_get owners b ≡ Some (Some s) → ((b < k) ⊎ (k + n ≤ b)) ⊎ ((k ≤ b) × (b < k + n)) → slice_get new b ≡ Some (Some s)
            apart b was (inl outside) = marked.outside b outside ∙ was
            apart b was (inr inside) = absurd (cc (sym was ∙ hole.free b inside.0 inside.1))

        held : (b s : ℕ) → ((b < k) ⊎ (k + n ≤ b)) ⊎ ((k ≤ b) × (b < k + n)) → slice_get new b ≡ Some (Some s) → IsHeld first after b s
        held b s (inl outside) h =
            let old = table.held b s (sym (marked.outside b outside) ∙ h) in record {
              place = old.place;
              there = place-other places slot (Some p) s (λ e. absurd (cc (sym none ∙ ap (place_of places) (sym e) ∙ old.there))) ∙ old.there;
              from = old.from;
              to = old.to;
            }
        held b s (inr inside) h =
            let e : slot ≡ s = same_Some slot s (same_Some (Some slot) (Some s) (sym (marked.inside b inside.0 inside.1) ∙ h)) in record {
              place = p;
              there = ap (place_of after) (sym e) ∙ place-same places slot (Some p) lt;
              from = omega (arith, inside.0);
              to = omega (arith, inside.1);
            }

    -- a segment goes, and its blocks are nobody's
    pub drop-table : (p : Placed) → place_of places slot ≡ Some p → p.first ≡ first + k → p.blocks ≡ n → IsMarked owners new k n None → IsTable first (set places slot None) new
    drop-table p there at size marked = record { owned = λ s q h. owned s q (same_or_not s slot) h; held = λ b s h. held b s (parts b k n) h }
      where
        lt : slot < length places
        lt = place_within places slot p there

        after : List (Option Placed)
        after = set places slot None

        owned : (s : ℕ) (q : Placed) → (s ≡ slot) ⊎ (s ≢ slot) → place_of after s ≡ Some q → IsOwned first new s q
        owned s q (inl e) h = absurd (cc (sym (place-same places slot None lt) ∙ ap (place_of after) (sym e) ∙ h))
        owned s q (inr differ) h =
            let old = table.owned s q (sym (place-other places slot None s differ) ∙ h) in
            let long = marked.same_length in
            let within = old.within in record {
              above = old.above;
              some = old.some;
              small = old.small;
              within = omega (arith, within, long);
              blocks = λ b low high. apart b (old.blocks b low high) (parts b k n);
            }
          where
            apart : (b : ℕ) → slice_get owners b ≡ Some (Some s) → ((b < k) ⊎ (k + n ≤ b)) ⊎ ((k ≤ b) × (b < k + n)) → slice_get new b ≡ Some (Some s)
            apart b was (inl outside) = marked.outside b outside ∙ was
            apart b was (inr inside) =
                let its = (table.owned slot p there).blocks b (omega (arith, at, inside.0)) (omega (arith, at, size, inside.1)) in
                absurd (differ (sym (same_Some slot s (same_Some (Some slot) (Some s) (sym its ∙ was)))))

        held : (b s : ℕ) → ((b < k) ⊎ (k + n ≤ b)) ⊎ ((k ≤ b) × (b < k + n)) → slice_get new b ≡ Some (Some s) → IsHeld first after b s
        held b s (inr inside) h = absurd (cc (sym (marked.inside b inside.0 inside.1) ∙ h))
        held b s (inl outside) h =
            let old = table.held b s (sym (marked.outside b outside) ∙ h) in record {
              place = old.place;
              there = place-other places slot None s (differs old outside) ∙ old.there;
              from = old.from;
              to = old.to;
            }
          where
            differs : IsHeld first places b s → (b < k) ⊎ (k + n ≤ b) → s ≢ slot
            differs old outside e =
                let is : p ≡ old.place = same_Some p old.place (sym there ∙ ap (place_of places) (sym e) ∙ old.there) in
                let begins : p.first ≡ old.place.first = ap (λ (x : Placed). x.first) is in
                let blocks : p.blocks ≡ old.place.blocks = ap (λ (x : Placed). x.blocks) is in
                let from = old.from in
                let to = old.to in
                elim outside [
                  | inl under ↦ absurd (omega (arith, under, from, begins, at))
                  | inr over ↦ absurd (omega (arith, over, to, begins, blocks, at, size))
                ]
