use Rattle.std.specs.Prelude.{ℕ, zero, suc, ◌+◌, ◌-◌, ◌^◌, min}

-- a count after n more: it stands at the last value of u64
unfoldable pub counted_on : ℕ → ℕ → ℕ
counted_on count zero = count
counted_on count (suc n) = min (count + suc n) (2 ^ 64 - 1)
