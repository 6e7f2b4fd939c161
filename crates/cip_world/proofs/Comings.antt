-- What a ledger finds of a frame: where it comes in, just where it waits.
use Rattle.std.proofs.Common.{◌≡◌, ℕ, Bool, true, false, List, length, Option, Some, None, refl, sym, ap, ◌∙◌}
use Rattle.std.specs.Prelude.{◌↔◌, IsTrue, option_map, IfSome}
use Rattle.std.specs.List.{list_any}
use Rattle.cip_chassis.specs.Plan.{Plan}
use Rattle.cip_chassis.specs.Nodes.{across as goes}
use Rattle.cip_world.specs.declared.flight.Flying.{Flying}
use Rattle.cip_world.specs.declared.flight.Coming.{Coming}
use Rattle.cip_event.specs.declared.frame.FrameName.{FrameName}
use Rattle.cip_world.specs.Coming.{flight, way_in, IsComing}
use Rattle.cip_world.specs.Journals.{Journal, Flight, frame_at, same_name}
use Rattle.cip_world.specs.Ledgers.{IsLedger, newest_outputs}
use Rattle.cip_world.specs.Runs.{IsWaiting}
use Rattle.cip_world.specs.Waiting.{waiting}
use Rattle.cip_world.proofs.Listed.{all_listed}
use Rattle.cip_world.proofs.Waits.{listed_waits, waits_listed}

module _ (t : Plan) (j : Journal) (listed : List FrameName) (looked : ℕ) (l : IsLedger t j listed looked)
    (full : length (newest_outputs j) ≡ looked) (f : FrameName) where
  same : list_any (λ g. same_name g f) (waiting t j) ≡ list_any (λ g. same_name g f) listed
  same = ap (list_any (λ g. same_name g f)) (all_listed t j listed looked l full)

  pub not_listed : (b : Bool) → b ≡ list_any (λ g. same_name g f) listed → b ≡ false → IsWaiting t j f → ⊥
  not_listed b is out w = let listed_ = waits_listed t j f w in let there = same in cc

  pub is_listed : (b : Bool) → b ≡ list_any (λ g. same_name g f) listed → b ≡ true → IsWaiting t j f
  is_listed b is has = listed_waits t j f (same ∙ sym is ∙ has)

  pub just_listed : (b : Bool) → b ≡ list_any (λ g. same_name g f) listed → IsTrue b ↔ IsWaiting t j f
  just_listed true is = (λ _. is_listed true is refl, λ _. refl)
  just_listed false is = (λ e. absurd (cc), λ w. absurd (not_listed false is refl w))

some_same : {A : Type 0} (a b : A) → Some a ≡ Some b → a ≡ b
some_same a b e = cc

pub comes : (t : Plan) (j : Journal) (f : FrameName) (flying : Flying) (r : Option Coming) → IsWaiting t j f
    → Some (flight flying) ≡ frame_at j f → option_map way_in r ≡ goes t (flight flying).way
    → IfSome r (λ c. c.body.now ≡ flying.body.now) → IfSome r (IsComing t j f)
comes t j f flying None w is way body = tt
comes t j f flying (Some c) w is way body =
    let flies : flight flying ≡ w.flight = some_same (flight flying) w.flight (is ∙ w.sent) in
    record {
      waits = w;
      here = some_same w.there (way_in c) (sym w.leads ∙ ap (λ (x : Flight). goes t x.way) (sym flies) ∙ sym way);
      body_is = ap (λ (x : Flight). x.body) (sym flies) ∙ sym body;
    }
