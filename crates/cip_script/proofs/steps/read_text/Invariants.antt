use Rattle.std.proofs.Common.{◌≡◌, ◌+◌, ◌≤◌, length, vec_items}
use Rattle.std.specs.Str.{IsAscii}
use Rattle.std.specs.Str.Lines.{lines}
use Rattle.cip_script.specs.Steps.{steps_from}
use Rattle.cip_script.proofs.StepsLaws.{before}
use denote.Shadow.{shadow}
use denote.Text.{Utf8}
use Rattle.cip_script.proofs.steps.read_text.Given as goal

abbrev pub decreases-lines : goal.decreases-lines
decreases-lines l = length l.rest

abbrev pub invariant-lines : goal.invariant-lines
invariant-lines l = record {
  utf8 : shadow (Utf8 l.rest);
  text : IsAscii l.rest;
  within : l.line + length l.rest ≤ length l.script;
  read : before (vec_items l.found) (steps_from l.mode l.names (l.line + 1) (lines l.rest)) ≡ steps_from l.mode l.names 1 (lines l.script);
}
