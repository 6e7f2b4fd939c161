-- The steps of a script under way.
use Rattle.std.proofs.Common.{◌≡◌, ℕ, suc, length, drop, arith, List, [], ◌∷◌, ◌++◌, Option, Some, None, Result, Ok, Err, refl, sym, ap, ◌∙◌, subst}
use Rattle.std.proofs.Common.{append_assoc, append-nil}
use Rattle.std.specs.Io.KnownBytes.{Appends}
use Rattle.cip_console.specs.declared.playing.PlayFault.{PlayFault}
use Rattle.cip_script.specs.declared.steps.Step.{Step}
use Rattle.cip_script.specs.declared.steps.ScriptFault.{ScriptFault}
use Rattle.cip_script.specs.declared.steps.Numbered.{Numbered}
use Rattle.cip_console.specs.Known.{AppendsFront}
use Rattle.cip_console.specs.Playing.{Prints, Played, Plays}
use Rattle.cip_chassis.specs.Plan.{Plan}
use Rattle.cip_world.specs.Journals.{Journal}
use Rattle.cip_console.specs.Transcript.{Part, printed, continued, played, played_all, transcript, stop_after, stop_from, stop_of}
use Rattle.cip_console.proofs.Prints.{prints_nothing, prints_then, front_more, front_then, prints_all}

-- what was printed so far, and what the steps that are left print
pub record Running (t : Plan) (all : List Numbered) (old new : Option (List ℕ)) (gathered : List ℕ) (j : Journal) (left : List Numbered) : Type 0 where
  pub done : List ℕ
  pub prints : Prints old new [] gathered done
  pub text : transcript t all ≡ done ++ (played_all t j left).text
  pub stop : stop_of t all ≡ stop_from t j left

pub running_start : (t : Plan) (all : List Numbered) (old : Option (List ℕ)) (j : Journal) → j ≡ [] → Running t all old old [] j all
running_start t all old j e = record {
  done = [];
  prints = prints_nothing old [];
  text = ap (λ (k : Journal). (played_all t k all).text) (sym e);
  stop = ap (λ (k : Journal). stop_from t k all) (sym e);
}

then_played : (t : Plan) (run next : Journal) (numbered : Numbered) (more : List Numbered)
    → (played t run numbered.step).after ≡ Ok next
    → played_all t run (numbered ∷ more) ≡ printed (played t run numbered.step).text (played_all t next more)
then_played t run next numbered more e =
    ap (λ (o : Result Journal ScriptFault). continued (played t run numbered.step).text o (λ x. played_all t x more)) e

stopped_there : (t : Plan) (run : Journal) (numbered : Numbered) (more : List Numbered) (fault : ScriptFault)
    → (played t run numbered.step).after ≡ Err fault
    → (played_all t run (numbered ∷ more)).text ≡ (played t run numbered.step).text
stopped_there t run numbered more fault e =
    ap (λ (o : Result Journal ScriptFault). (continued (played t run numbered.step).text o (λ x. played_all t x more)).text) e

-- the same, said of an equal list
pub running_on : (t : Plan) (all : List Numbered) (old new : Option (List ℕ)) (gathered : List ℕ) (s : Journal)
    (left left' : List Numbered)
    → Running t all old new gathered s left → left ≡ left' → Running t all old new gathered s left'
running_on t all old new gathered s left left' r e = subst (Running t all old new gathered s) e r

-- a step was played
pub running_step : (t : Plan) (all : List Numbered) (old mid new : Option (List ℕ)) (between after : List ℕ) (s s' : Journal)
    (numbered : Numbered) (more : List Numbered)
    → (r : Running t all old mid between s (numbered ∷ more)) → Played (played t s numbered.step) mid new between after s'
    → Running t all old new after s' more
running_step t all old mid new between after s s' numbered more r p =
    let part = played t s numbered.step in
    record {
      done = r.done ++ part.text;
      prints = prints_then old mid new [] between after r.done part.text r.prints p.prints;
      text = r.text ∙ ap (λ (x : Part). r.done ++ x.text) (then_played t s s' numbered more p.ends)
          ∙ sym (append_assoc r.done part.text (played_all t s' more).text);
      stop = r.stop ∙ ap (λ (o : Result Journal ScriptFault). stop_after numbered.line o (λ x. stop_from t x more)) p.ends;
    }

-- all was played, and what was gathered was written
pub running_ends : (t : Plan) (all : List Numbered) (old mid new : Option (List ℕ)) (between : List ℕ) (s : Journal)
    → Running t all old mid between s [] → Prints mid new between [] []
    → (stop_of t all ≡ None) × Appends old new (transcript t all)
running_ends t all old mid new between s r f = (
  r.stop,
  subst (Appends old new) (append-nil r.done ∙ sym (r.text ∙ append-nil r.done))
      (prints_all old new [] (r.done ++ []) (prints_then old mid new [] between [] r.done [] r.prints f)),
)

-- a clock was full there, and what was gathered was written
pub running_stops : (t : Plan) (all : List Numbered) (old mid mid' new : Option (List ℕ)) (between after : List ℕ) (s : Journal)
    (numbered : Numbered) (more : List Numbered) (fault : ScriptFault)
    → (r : Running t all old mid between s (numbered ∷ more))
    → ((played t s numbered.step).after ≡ Err fault) × Prints mid mid' between after (played t s numbered.step).text
    → Prints mid' new after [] []
    → (stop_of t all ≡ Some (numbered.line, fault)) × Appends old new (transcript t all)
running_stops t all old mid mid' new between after s numbered more fault r p f =
    let text = (played t s numbered.step).text in
    let whole = r.text ∙ ap (λ l. r.done ++ l) (stopped_there t s numbered more fault p.0) in (
      r.stop ∙ ap (λ (o : Result Journal ScriptFault). stop_after numbered.line o (λ x. stop_from t x more)) p.0,
      subst (Appends old new) (append-nil (r.done ++ text) ∙ sym whole)
          (prints_all old new [] ((r.done ++ text) ++ []) (prints_then old mid' new [] after [] (r.done ++ text) []
          (prints_then old mid mid' [] between after r.done text r.prints p.1) f)),
    )

more_text : (part : Part) (after : Result Journal ScriptFault) (rest : Journal → Part)
    → (more : List ℕ) × ((continued part.text after rest).text ≡ part.text ++ more)
more_text part (Err fault) rest = ([], sym (append-nil part.text))
more_text part (Ok run) rest = ((rest run).text, refl)

-- a prefix of what the next step prints was written
pub running_front : (t : Plan) (all : List Numbered) (old mid new : Option (List ℕ)) (between : List ℕ) (s : Journal)
    (numbered : Numbered) (more : List Numbered)
    → (r : Running t all old mid between s (numbered ∷ more)) → AppendsFront mid new (between ++ (played t s numbered.step).text)
    → AppendsFront old new (transcript t all)
running_front t all old mid new between s numbered more r f =
    let part = played t s numbered.step in
    let rest = more_text part part.after (λ x. played_all t x more) in
    let text = (played_all t s (numbered ∷ more)).text in
    let longer : AppendsFront mid new (between ++ text) =
    subst (AppendsFront mid new) (append_assoc between part.text rest.0 ∙ ap (λ l. between ++ l) (sym rest.1))
    (front_more mid new (between ++ part.text) rest.0 f) in
    subst (AppendsFront old new) (sym r.text) (front_then old mid new [] between r.done text r.prints longer)

-- what was gathered could not be written
pub running_unwritten : (t : Plan) (all : List Numbered) (old mid new : Option (List ℕ)) (gathered : List ℕ) (s : Journal)
    (left : List Numbered)
    → Running t all old mid gathered s left → AppendsFront mid new gathered → AppendsFront old new (transcript t all)
running_unwritten t all old mid new gathered s left r f =
    let text = (played_all t s left).text in
    subst (AppendsFront old new) (sym r.text) (front_then old mid new [] gathered r.done text r.prints (front_more mid new gathered text f))

-- the same after a clock was full
pub stop_unwritten : (t : Plan) (all : List Numbered) (old mid mid' new : Option (List ℕ)) (between after : List ℕ) (s : Journal)
    (numbered : Numbered) (more : List Numbered) (fault : ScriptFault)
    → (r : Running t all old mid between s (numbered ∷ more))
    → ((played t s numbered.step).after ≡ Err fault) × Prints mid mid' between after (played t s numbered.step).text
    → AppendsFront mid' new after
    → AppendsFront old new (transcript t all)
stop_unwritten t all old mid mid' new between after s numbered more fault r p f =
    let text = (played t s numbered.step).text in
    let whole = r.text ∙ ap (λ l. r.done ++ l) (stopped_there t s numbered more fault p.0) in
    let front = front_then old mid' new [] after (r.done ++ text) [] (prints_then old mid mid' [] between after r.done text r.prints p.1)
    (front_more mid' new after [] f) in
    subst (AppendsFront old new) (append-nil (r.done ++ text) ∙ sym whole) front

-- a list that a pop leaves as it was is empty
pub none_popped : {X : Type 0} (left rest : List X) → left ≡ rest → rest ≡ drop 1 left → left ≡ []
none_popped [] rest e d = refl
none_popped (x ∷ xs) rest e d = let longer : suc (length xs) ≡ length xs = ap length (e ∙ d) in absurd (omega arith)
