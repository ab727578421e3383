use Rattle.bk_space.proofs.CountLemmas.{counted_on-zero}

-- what a count needs where nothing is counted on the way; a search with less to try ends sooner
pub ruleset no_part = (counted_on-zero)
