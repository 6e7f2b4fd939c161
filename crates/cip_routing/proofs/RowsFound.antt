-- A look through the rows of the connections finds the row of the connection that a look at the connections finds.
use Rattle.std.proofs.Common.{◌≡◌, Bool, true, false, cond, List, [], ◌∷◌, refl, Option, Some}
use Rattle.std.specs.Option.{option_and_then, option_map}
use Rattle.std.specs.List.{find, filter_map, cons_option}
use Rattle.std.specs.Prelude.{map as mapped}
use Rattle.std.specs.FinMap as map
use Rattle.cip_base.specs.declared.triad.Triad.{Triad}
use Rattle.cip_hops.specs.declared.hop.Hop.{Hop}
use Rattle.cip_hops.specs.declared.hop.Held.{Held}
use Rattle.cip_hops.specs.declared.hop.Held.TheVariants.{Opening as IsOpening, Open}
use Rattle.cip_hops.specs.Hops.{Hops, as_hop, is_hop, first_hop}
use Rattle.cip_routing.specs.declared.tables.HopRow.{HopRow}
use Rattle.cip_routing.specs.Views.{hop_row_of}

abbrev row_in : (HopRow → Bool) → List (Triad × Held) → Option HopRow
row_in named es = find named (mapped hop_row_of (filter_map (λ (e : Triad × Held). as_hop e.1) es))

abbrev hop_in : (HopRow → Bool) → List (Triad × Held) → Option Hop
hop_in named es = option_and_then (λ (e : Triad × Held). as_hop e.1) (find (λ (e : Triad × Held). is_hop (λ h. named (hop_row_of h)) e.1) es)

in_entries : (named : HopRow → Bool) (es : List (Triad × Held)) → row_in named es ≡ option_map hop_row_of (hop_in named es)
in_entries named [] = refl
in_entries named (e ∷ es) = by e.1 (in_entries named es)
  where
    by : (x : Held) → row_in named es ≡ option_map hop_row_of (hop_in named es)
        → find named (mapped hop_row_of (cons_option (as_hop x) (filter_map (λ (e : Triad × Held). as_hop e.1) es)))
        ≡ option_map hop_row_of (option_and_then (λ (e : Triad × Held). as_hop e.1)
        (cond (is_hop (λ h. named (hop_row_of h)) x) (Some (e.0, x)) (find (λ (e : Triad × Held). is_hop (λ h. named (hop_row_of h)) e.1) es)))
    by (IsOpening o ids) rest = rest
    by (Open h) rest =
        elim (named (hop_row_of h)) as (λ b. cond b (Some (hop_row_of h)) (row_in named es)
        ≡ option_map hop_row_of (option_and_then (λ (e : Triad × Held). as_hop e.1)
        (cond b (Some (e.0, Open h)) (find (λ (e : Triad × Held). is_hop (λ h. named (hop_row_of h)) e.1) es))))
        [ true ↦ refl | false ↦ rest ]

pub row_found : (named : HopRow → Bool) (h : Hops)
    → find named (mapped hop_row_of (filter_map (λ (e : Triad × Held). as_hop e.1) (map.entries h.held)))
    ≡ option_map hop_row_of (first_hop (λ hop. named (hop_row_of hop)) h)
row_found named h = in_entries named (map.entries h.held)
