use Rattle.std.proofs.Common.{◌≡◌, ◌≤◌, ◌<◌, ◌^◌, length, take, drop, true}
use Rattle.std.specs.List.{list_all}
use Rattle.bk_report.specs.Reading.{is_digit}
use Rattle.bk_script.specs.Fields.{number}
use Rattle.bk_script.proofs.field.number.Given as goal

abbrev pub invariant-loop-digit : goal.invariant-loop-digit
invariant-loop-digit l = record {
  exact : l.n ≡ number (take l.digit-index l.text);
  short : length l.text ≤ 9;
  fits : l.n < 10 ^ l.digit-index;
  digits : list_all is_digit (drop l.digit-index l.text) ≡ true;
}
