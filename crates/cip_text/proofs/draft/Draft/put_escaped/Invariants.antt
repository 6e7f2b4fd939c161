use Rattle.std.proofs.Common.{◌≡◌, ◌++◌, length}
use denote.Text.{Utf8}
use denote.Shadow.{shadow}
use Rattle.cip_text.specs.Escapes.{escaped}
use Rattle.cip_text.proofs.draft.Draft.put_escaped.Given as goal

abbrev pub invariant-parts : goal.invariant-parts
invariant-parts l = record {
  text : shadow (Utf8 l.rest);
  parts : l.self ++ escaped l.rest ≡ l.initial.self ++ escaped l.text;
}

abbrev pub decreases-parts : goal.decreases-parts
decreases-parts l = length l.rest
