use Rattle.std.proofs.Common.{◌-◌, ◌*◌, length}
use Rattle.bk_object.specs.Pairs.{split_pairs}
use Rattle.bk_image.proofs.VersionLaws.{number_read, one_spelling, first_for, first_level, nothing_more}
use Rattle.bk_image.proofs.laws.law_version.Goals as goal

pub returns-clause-one : goal.returns-clause-one
returns-clause-one c = number_read

pub returns-clause-alone : goal.returns-clause-alone
returns-clause-alone c = one_spelling

pub returns-clause-first : goal.returns-clause-first
returns-clause-first c = first_for

pub returns-clause-level : goal.returns-clause-level
returns-clause-level c = λ class second low high i. record { class = class; categories = first_level low high i }

pub returns-clause-row : goal.returns-clause-row
returns-clause-row c = λ pairs subject. nothing_more (split_pairs pairs) (64 - 2 * length pairs) subject
