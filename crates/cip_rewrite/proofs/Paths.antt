-- A path at the end of a message.
use Rattle.std.proofs.Common.{◌≡◌, ℕ, ◌+◌, ◌*◌, ◌<◌, ◌≤◌, List, length, drop, get_or, inl, inr, Some, sym, ap, subst, ◌∙◌, arith}
use Rattle.std.proofs.lemmas.Bool.{cases_lt}
use Rattle.std.proofs.lemmas.List.{drop-drop, get_or_past}
use Rattle.cip_base.specs.Fields.{IsBytes}
use Rattle.cip_segment.specs.Spelling.{IsReadable}
use Rattle.cip_segment.specs.Hop.{HasHop}
use Rattle.cip_segment.specs.Reading.{HopAt, hop_of}
use Rattle.cip_segment.proofs.HopsRead.{HasHop-Some}
use Rattle.cip_message.proofs.Readers.{IsBytes-drop}
use Rattle.cip_rewrite.specs.LeadsOn.{LeadsOn}

-- what holds of each byte within the list holds of each
pub octets : (b : List ℕ) → ((i : ℕ) → i < length b → get_or b i 0 < 256) → IsBytes b
octets b h i =
    elim (cases_lt i (length b)) [
      | inl lt ↦ h i lt
      | inr le ↦ rw (get_or_past b i 0 le) (omega arith)
    ]

-- where the data of a request begins
abbrev pub start_of : List ℕ → ℕ
start_of b = 2 + 2 * get_or b 1 0

pub leads_on : (b d : List ℕ) (start fixed : ℕ) (path : List ℕ) (hop : HopAt) → 6 ≤ start → start + fixed ≤ length b → drop start b ≡ d
    → drop fixed d ≡ path → IsBytes d → IsReadable path → hop_of path ≡ Some hop → LeadsOn b start fixed hop
leads_on b d start fixed path hop header within data_is path_is fits readable leads =
    let at : drop (start + fixed) b ≡ path = sym (drop-drop fixed start b) ∙ ap (λ (t : List ℕ). drop fixed t) data_is ∙ path_is in
    let path_fits : IsBytes path = subst IsBytes path_is (IsBytes-drop fixed d fits) in record {
      header = header;
      within = within;
      readable = subst IsReadable (sym at) readable;
      has_hop = subst HasHop (sym at) (HasHop-Some path hop path_fits readable leads);
      leads = ap hop_of at ∙ leads;
    }
