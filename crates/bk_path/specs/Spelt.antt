-- A path as seven entries, root first, with zeros in the unused ones.
use Rattle.std.specs.Prelude.{◌≡◌, ℕ, ◌≤◌, true, List, length, take, drop, reverse, nat_lt, ◌==◌}
use Rattle.std.specs.List.{list_all}
use Rattle.bk_path.specs.Paths.{Path}

-- the entries are those of the path, with zeros behind them
pub record Spells (entries : List ℕ) (path : Path) : Type 0 where
  pub seven : length entries ≡ 7
  pub depth : length path ≤ 7
  pub front : take (length path) entries ≡ reverse path
  pub zeros : list_all (λ entry. entry == 0) (drop (length path) entries) ≡ true
  pub small : list_all (λ entry. nat_lt entry 16) entries ≡ true
