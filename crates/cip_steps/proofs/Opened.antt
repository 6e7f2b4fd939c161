-- What an opening that goes on may rely on.
use Rattle.std.proofs.Common.{◌≡◌, ℕ, ◌<◌, Bool, true, false, cond, ◌&&◌, leb, refl, sym, ap, subst, ◌∙◌, arith, Some, None, is_some, List, []}
use Rattle.std.specs.Prelude.{not, ◌||◌, eqb}
use Rattle.std.specs.FinMap as map
use Rattle.std.proofs.lemmas.Bool.Decides.{nat_tests}
use Rattle.cip_open.specs.Open.{Open}
use Rattle.cip_open.specs.Params.{open_params_of}
use Rattle.cip_pending.specs.declared.entry.UpSide.{UpSide}
use Rattle.cip_pending.specs.declared.entry.UpSide.TheVariants.{Link, Local}
use Rattle.cip_hops.specs.declared.opening.HopUp.{HopUp}
use Rattle.cip_hops.specs.declared.opening.HopDown.TheVariants.{Link as DownLink}
use Rattle.cip_hops.specs.declared.opening.Opening.{Opening}
use Rattle.cip_hops.specs.Hops.{Hops, IsOpFree, refusal}
use Rattle.cip_segment.specs.Reading.{segments_of}
use Rattle.cip_config.specs.declared.config.ModuleSettings.{ModuleSettings}
use Rattle.cip_steps.specs.declared.device.Device.{Device}
use Rattle.cip_routing.specs.declared.refusals.OpenRefusal.{OpenRefusal}
use Rattle.cip_routing.specs.declared.refusals.OpenRefusal.TheVariants.{ConnectionTypeNotSupported, RpiOfZero, TriadInUse}
use Rattle.cip_routing.specs.Effects.{applied}
use Rattle.cip_routing.specs.Keys.{leading_mismatch}
use Rattle.cip_steps.specs.Code.Device.{state_of_device}
use Rattle.cip_routing.specs.OpenRows.{OpenRow, Refuses, open_row, opening_with, ids_if_forwarded, is_supported, is_supported_direction, key_row}
use Rattle.cip_steps.specs.Code.Ready.{IsReady, CanSpend}
use Rattle.cip_routing.specs.State.{State, is_spent}
use Rattle.cip_routing.specs.Table.{up_side_of, with_spending}
use Rattle.cip_routing.proofs.Kept.{spent_now}
use Rattle.cip_steps.proofs.Spending.{new_op, no_op}

ready_by : (old new : Device) (up : UpSide) (id port : ℕ) (address : List ℕ) (o : Open)
    → state_of_device new ≡ applied old.config (state_of_device old) (with_spending up []) → CanSpend old up
    → o.fields.multiplier < 8 → refusal old.hops o.fields.triad (ids_if_forwarded (up_side_of up id)) ≡ None
    → IsReady new (opening_with (up_side_of up id) (DownLink port address) o)
ready_by old new (Link by to number) id port address o e can multiplier room = record {
  multiplier = multiplier;
  free = no_op new.hops;
  spent = λ op none. let never : None ≡ Some op = none in absurd (cc);
  room = ap (λ (s : State). refusal s.hops o.fields.triad 2) e ∙ room;
}
ready_by old new (Local op) id port address o e can multiplier room =
    let free : IsOpFree old.hops (Some op) = new_op old.hops old.ops.ops.items op old.fit.spent can.0 in
    record {
      multiplier = multiplier;
      free = subst (λ (h : Hops). IsOpFree h (Some op)) (sym (ap (λ (s : State). s.hops) e)) free;
      spent = λ other is. let both : Some op ≡ Some other = is in let same : op ≡ other = cc in
          ap (λ n. is_spent n new.ops.ops.items) (sym same) ∙ ap (λ (s : State). is_spent op s.ops) e ∙ spent_now op old.ops.ops.items;
      room = ap (λ (s : State). refusal s.hops o.fields.triad 1) e ∙ room;
    }

-- an opening that goes on by a link, after its op is spent
pub ready : (old new : Device) (up : UpSide) (id port : ℕ) (address : List ℕ) (o : Open) (opening : Opening)
    → state_of_device new ≡ applied old.config (state_of_device old) (with_spending up []) → CanSpend old up
    → opening ≡ opening_with (up_side_of up id) (DownLink port address) o → o.fields.multiplier < 8
    → refusal old.hops o.fields.triad (ids_if_forwarded (up_side_of up id)) ≡ None
    → IsReady new opening
ready old new up id port address o opening e can is multiplier room = subst (IsReady new) (sym is) (ready_by old new up id port address o e can multiplier room)

both_last : (a b c : Bool) → a && (b && c) ≡ true → c ≡ true
both_last true true c e = e
both_last true false c e = absurd (cc)
both_last false b c e = absurd (cc)

at_most : (n : ℕ) → leb n 7 ≡ true → n < 8
at_most n e = grind (arith, nat_tests)

pub supported_below : (o : Open) → is_supported o ≡ true → o.fields.multiplier < 8
supported_below o e = at_most o.fields.multiplier
    (both_last (is_supported_direction (open_params_of o.fields.large o.fields.ot_params))
    (is_supported_direction (open_params_of o.fields.large o.fields.to_params))
    (leb o.fields.multiplier 7) e)

unless_refused : (b : Bool) (row other : OpenRow) → row ≡ cond (not b) (Refuses ConnectionTypeNotSupported) other
    → ((refusal : OpenRefusal) → row ≡ Refuses refusal → ⊥) → b ≡ true
unless_refused true row other e never = refl
unless_refused false row other e never = absurd (never ConnectionTypeNotSupported e)

-- what goes on or is accepted has a multiplier that the standard knows
pub multiplier_below : (config : ModuleSettings) (s : State) (up : HopUp) (o : Open) (row : OpenRow) → row ≡ open_row config s up o
    → ((refusal : OpenRefusal) → row ≡ Refuses refusal → ⊥) → o.fields.multiplier < 8
unfolding open_row
multiplier_below config s up o row e never =
    supported_below o (unless_refused (is_supported o) row
    (cond (eqb o.fields.ot_rpi 0 || eqb o.fields.to_rpi 0) (Refuses RpiOfZero)
    (cond (is_some (map.get s.hops.held o.fields.triad)) (Refuses TriadInUse) (key_row config s up o (leading_mismatch config (segments_of o.path))))) e never)
