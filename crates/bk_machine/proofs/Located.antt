-- What the registers of a page answer is what the page that they show answers.
use Rattle.std.proofs.Common.{◌≡◌, ℕ, ◌<◌, ◌≤◌, ◌+◌, ◌*◌, ◌/◌, ◌&&◌, ◌==◌, nat_lt, Bool, true, false, if◌then◌else◌}
use Rattle.std.proofs.Common.{List, length, get_or, refl, ap, ◌∙◌, arith, length-take, length-drop, get_or-take, get_or-drop, Ok, Err, Option, Some, None}
use Rattle.std.proofs.lemmas.Bool.Decides.{nat_tests}
use Rattle.std.specs.Prelude.{Result, IfOk}
use Rattle.bk_space.specs.declared.reference.Mode.{Mode}
use Rattle.bk_space.specs.declared.reference.Space.{Space}
use Rattle.bk_space.specs.declared.reference.Width.{Width}
use Rattle.bk_space.specs.declared.reference.Abort.{Abort}
use Rattle.bk_space.specs.declared.reference.Abort.TheVariants.{Odd, NonResident, Length, ReadOnly}
use Rattle.bk_space.specs.AddrSpace.{is_absent, is_beyond, is_odd, is_read_only, offset_of, page_number, refusal, unless}
use Rattle.bk_object.specs.Limits.{bytes_of_block, words_of_block}
use Rattle.bk_core.specs.Memory.{block_words, blocks_of_core, bytes_of_core, kernel_blocks, words_of_core}
use Rattle.bk_mmu.specs.ActivePages.{ActivePage, IsPlaced, active_page, block_number, blocks_of, physical, refused_by, relocated}
use Rattle.bk_machine.specs.Paged.{abort_of, page_of, paged, refused_at, rights_by, Locates}

-- the page has its blocks' words
size : (page : ActivePage) (words : List ℕ) → IsPlaced page → length words ≡ words_of_core → length (block_words words page.address_field (blocks_of page)) ≡ words_of_block * blocks_of page
size page words placed full = let below : page.address_field + blocks_of page ≤ blocks_of_core = placed.below in grind (arith, length-take, length-drop, full)

-- beyond these words is behind the last block
past : (page : ActivePage) (words : List ℕ) (offset : ℕ) → IsPlaced page → length words ≡ words_of_core → (page.descriptor.access_control == 0) ≡ false →
    is_beyond (page_of page words) offset ≡ nat_lt page.descriptor.length_field (block_number offset)
past page words offset placed full there = rw (size page words placed full, there) (grind (arith, nat_tests))

by_tests : (absent read_only beyond behind writes : Bool) → (absent ≡ false → beyond ≡ behind) →
    (if is_absent (rights_by absent read_only) then Some NonResident else (if beyond then Some Length else (if writes && is_read_only (rights_by absent read_only) then Some ReadOnly else None)))
    ≡ (if absent then Some NonResident else (if behind then Some Length else (if writes && read_only then Some ReadOnly else None)))
by_tests true read_only beyond behind writes same = refl
by_tests false true beyond behind writes same = rw (same refl) refl
by_tests false false beyond behind writes same = rw (same refl) refl

by_odd : (odd : Bool) (a b : Option Abort) → a ≡ b → (if odd then Some Odd else a) ≡ (if odd then Some Odd else b)
by_odd true a b same = refl
by_odd false a b same = same

-- the registers refuse as the page does
pub same_refusal : (page : ActivePage) (words : List ℕ) (width : Width) (addr : ℕ) (writes : Bool) → IsPlaced page → length words ≡ words_of_core →
    refusal (page_of page words) width addr writes ≡ (if is_odd width addr then Some Odd else refused_by page (offset_of addr) writes)
same_refusal page words width addr writes placed full =
    by_odd (is_odd width addr) _ _
    (by_tests (page.descriptor.access_control == 0) (page.descriptor.access_control == 2) (is_beyond (page_of page words) (offset_of addr)) (nat_lt page.descriptor.length_field (block_number (offset_of addr))) writes
    (past page words (offset_of addr) placed full))

abort-unless : (o : Option Abort) (x : ℕ) → abort_of (unless o x) ≡ o
abort-unless None x = refl
abort-unless (Some e) x = refl

-- what relocation refuses
relocated-refused : (page : ActivePage) (offset : ℕ) (writes : Bool) → abort_of (relocated page offset writes) ≡ refused_by page offset writes
unfolding relocated
relocated-refused page offset writes = abort-unless (refused_by page offset writes) (physical page offset)

-- what relocation answers, is told by the registers of the page that the address chooses
pub told : (registers : List ActivePage) (mode : Mode) (space : Space) (width : Width) (addr : ℕ) (writes : Bool) (result : Result ℕ Abort) → is_odd width addr ≡ false →
    result ≡ relocated (active_page registers (page_number mode space addr)) (offset_of addr) writes → abort_of result ≡ refused_at registers mode space width addr writes
told registers mode space width addr writes result even is =
    rw even (ap (λ (r : Result ℕ Abort). abort_of r) is ∙ relocated-refused (active_page registers (page_number mode space addr)) (offset_of addr) writes)

-- a reference that its registers let pass is to a page that is there, and inside it
pub record Passes (page : ActivePage) (offset : ℕ) : Type 0 where
  pub resident : (page.descriptor.access_control == 0) ≡ false
  pub inside : nat_lt page.descriptor.length_field (block_number offset) ≡ false

passes_by : (page : ActivePage) (offset : ℕ) (absent behind forbidden : Bool) → (page.descriptor.access_control == 0) ≡ absent → nat_lt page.descriptor.length_field (block_number offset) ≡ behind →
    (if absent then Some NonResident else (if behind then Some Length else (if forbidden then Some ReadOnly else None))) ≡ None → Passes page offset
passes_by page offset true behind forbidden a b h = cc
passes_by page offset false true forbidden a b h = cc
passes_by page offset false false forbidden a b h = record { resident = a; inside = b }

pub passes : (page : ActivePage) (offset : ℕ) (writes : Bool) → refused_by page offset writes ≡ None → Passes page offset
passes page offset writes h =
    passes_by page offset (page.descriptor.access_control == 0) (nat_lt page.descriptor.length_field (block_number offset)) (writes && page.descriptor.access_control == 2) refl refl h

-- it lies in the page's blocks
pub inside_blocks : (page : ActivePage) (offset : ℕ) → Passes page offset → offset < bytes_of_block * blocks_of page
inside_blocks page offset passed = let within = passed.inside in rw passed.resident (grind (arith, nat_tests, within))

-- and above the kernel's
pub above_kernel : (page : ActivePage) (offset : ℕ) → IsPlaced page → Passes page offset → bytes_of_block * kernel_blocks ≤ physical page offset
above_kernel page offset placed passed =
    let some : offset < bytes_of_block * blocks_of page = inside_blocks page offset passed in
    let above : kernel_blocks ≤ page.address_field = placed.above (omega (arith, some)) in
    omega (arith, above)

-- the word of the page at an offset is that of core at the physical address
content : (page : ActivePage) (words : List ℕ) (offset : ℕ) → offset < bytes_of_block * blocks_of page →
    get_or (block_words words page.address_field (blocks_of page)) (offset / 2) 0 ≡ get_or words (physical page offset / 2) 0
content page words offset inside =
    let half : physical page offset / 2 ≡ words_of_block * page.address_field + offset / 2 = omega arith in
    let less : offset / 2 < words_of_block * blocks_of page = omega (arith, inside) in
    rw half (grind (arith, get_or-take, get_or-drop, less))

ok-unless : (o : Option Abort) (x at : ℕ) → Ok at ≡ unless o x → (o ≡ None) × (at ≡ x)
ok-unless None x at h = (refl, cc)
ok-unless (Some e) x at h = cc

reached : (page : ActivePage) (offset : ℕ) (writes : Bool) (at : ℕ) → Ok at ≡ relocated page offset writes → (refused_by page offset writes ≡ None) × (at ≡ physical page offset)
unfolding relocated
reached page offset writes at h = ok-unless (refused_by page offset writes) (physical page offset) at h

located_at : (registers : List ActivePage) (words : List ℕ) (mode : Mode) (space : Space) (addr : ℕ) (writes : Bool) (at : ℕ) → at < bytes_of_core → bytes_of_block * kernel_blocks ≤ at →
    Ok at ≡ relocated (active_page registers (page_number mode space addr)) (offset_of addr) writes → Locates (paged registers words) mode space addr at
located_at registers words mode space addr writes at below above h =
    let page : ActivePage = active_page registers (page_number mode space addr) in
    let r = reached page (offset_of addr) writes at h in
    record {
      place = r.1;
      inside = below;
      above = above;
      half = rw r.1 (omega arith);
      content = rw r.1 (content page words (offset_of addr) (inside_blocks page (offset_of addr) (passes page (offset_of addr) writes r.0)));
    }

-- the address that relocation gives holds what the page has at the address
pub located : (registers : List ActivePage) (words : List ℕ) (mode : Mode) (space : Space) (addr : ℕ) (writes : Bool) (result : Result ℕ Abort) →
    IfOk result (λ at. at < bytes_of_core) → IfOk result (λ at. bytes_of_block * kernel_blocks ≤ at) → result ≡ relocated (active_page registers (page_number mode space addr)) (offset_of addr) writes →
    IfOk result (λ at. Locates (paged registers words) mode space addr at)
located registers words mode space addr writes (Err e) below above h = tt
located registers words mode space addr writes (Ok at) below above h = located_at registers words mode space addr writes at below above h
