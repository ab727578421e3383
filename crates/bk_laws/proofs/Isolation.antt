-- The laws of runs, from those of single events.
use Rattle.bk_laws.specs.Laws.{LawRuns, LawKept, LawLines}
use Rattle.bk_laws.proofs.SecureEvents.{law_secure}
use Rattle.bk_laws.proofs.UnseenEvents.{law_unseen}
use Rattle.bk_laws.proofs.SeenEvents.{law_seen}
use Rattle.bk_laws.proofs.Runs.{runs_alike}
use Rattle.bk_laws.proofs.Kept.{law_kept}
use Rattle.bk_laws.proofs.LineRecords.{law_lines}

pub runs : LawRuns
runs = runs_alike law_secure law_unseen law_seen

pub kept : LawKept
kept = law_kept law_secure law_unseen law_seen runs

pub lines : LawLines
lines = law_lines law_secure kept
