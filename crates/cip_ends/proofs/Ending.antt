-- Where an op ends, and where it does not.
use Rattle.std.proofs.Common.{◌≡◌, ℕ, zero, suc, List, [], ◌∷◌, Some, None, ◌⊎◌, inl, inr, refl, sym, subst, ap, arith}
use Rattle.std.proofs.Common.{◌<◌, ◌+◌, ◌∙◌, ◌==◌, get_or, length, true, Option}
use Rattle.std.specs.Prelude.{slice_get}
use Rattle.std.proofs.lemmas.Bool.{cases_Bool}
use Rattle.std.proofs.lemmas.Bool.Decides.{nat_tests}
use Rattle.cip_base.specs.declared.numbers.ModuleId.{ModuleId}
use Rattle.cip_event.specs.declared.event.Output.{Output}
use Rattle.cip_event.specs.declared.event.Output.TheVariants.{Send, Done, Refused, Consumed, Arrived, Expired, Ended, Dropped}
use Rattle.cip_world.specs.declared.journal.Entry.{Entry}
use Rattle.cip_world.specs.declared.journal.Entry.TheVariants.{Step, Lost}
use Rattle.cip_world.specs.declared.journal.Input.{Input}
use Rattle.cip_ends.specs.Ends.{HasNoEnd, HasOneDone, IsDoneAt, IsEndAt, IsReply, first_reply, or_else, reply_in, reply_of}

at_place : {X : Type 0} (xs : List X) (i : ℕ) (x : X) → i < length xs → x ≡ get_or xs i x → slice_get xs i ≡ Some x
at_place [] i x lt is = absurd (omega arith)
at_place (y ∷ xs) zero x lt is = ap Some (sym is)
at_place (y ∷ xs) (suc i) x lt is = at_place xs i x (omega arith) is

one_of : {X : Type 0} (x y : X) → Some x ≡ Some y → x ≡ y
one_of x y e = cc

-- the entry at a place is the only one there
same_here : (j : List Entry) (m op k : ℕ) (entry other : Entry) → k < length j → entry ≡ get_or j k entry → reply_in m op entry ≡ None
    → slice_get j k ≡ Some other → reply_in m op other ≡ None
same_here j m op k entry other lt is none here =
    subst (λ (e : Entry). reply_in m op e ≡ None) (one_of entry other (sym (at_place j k entry lt is) ∙ here)) none

below_or : (a n : ℕ) → a < n + 1 → (a < n) ⊎ (a ≡ n)
below_or zero zero lt = inr refl
below_or zero (suc n) lt = inl (omega arith)
below_or (suc a) zero lt = absurd (omega arith)
below_or (suc a) (suc n) lt =
    elim (below_or a n (omega arith)) [
      | inl l ↦ inl (omega arith)
      | inr e ↦ inr (ap suc e)
    ]

-- nor does it in one more entry before
pub none_before : (j : List Entry) (m op from to : ℕ) (entry : Entry) → from < length j → entry ≡ get_or j from entry → reply_in m op entry ≡ None
    → HasNoEnd j m op (from + 1) to → HasNoEnd j m op from to
none_before j m op from to entry lt is none old k other low high here =
    elim (below_or from k (omega arith)) [
      | inl l ↦ old k other (omega arith) high here
      | inr e ↦ same_here j m op from entry other lt is none (subst (λ (i : ℕ). slice_get j i ≡ Some other) (sym e) here)
    ]

pub end_here : (j : List Entry) (m op k : ℕ) (entry : Entry) (reply : List ℕ) → k < length j → entry ≡ get_or j k entry
    → reply_in m op entry ≡ Some reply → IsEndAt j m op k reply
end_here j m op k entry reply lt is ends = record { entry = entry; here = at_place j k entry lt is; ends = ends }

-- ---- the only Done of an op

is_same : (n : ℕ) → (n == n) ≡ true
is_same n = grind (arith, nat_tests)

-- an output that ends the op is its Done
is_its_done : (op : ℕ) (output : Output) (reply : List ℕ) → reply_of op output ≡ Some reply → output ≡ Done op reply
is_its_done op (Done number found) reply e = elim (cases_Bool (number == op)) [
  | inl is ↦
      let same : number ≡ op = grind (arith, nat_tests) in
      let given : Some found ≡ Some reply = rw is at e in
      rw (same, one_of found reply given) refl
  | inr other ↦
      let none : None ≡ Some reply = rw other at e in
      absurd cc
]
is_its_done op (Send port to body) reply e = absurd cc
is_its_done op (Refused fault) reply e = absurd cc
is_its_done op (Consumed triad instance bytes) reply e = absurd cc
is_its_done op (Arrived number bytes) reply e = absurd cc
is_its_done op (Expired triad) reply e = absurd cc
is_its_done op (Ended number) reply e = absurd cc
is_its_done op (Dropped reason) reply e = absurd cc

first_or : (head rest : Option (List ℕ)) (reply : List ℕ) → or_else head rest ≡ Some reply → (head ≡ Some reply) ⊎ (rest ≡ Some reply)
first_or None rest reply e = inr e
first_or (Some found) rest reply e = inl e

-- the first reply comes from one of the outputs
first_is : (op : ℕ) (outputs : List Output) (reply : List ℕ) → first_reply op outputs ≡ Some reply
    → (i : ℕ) × (slice_get outputs i ≡ Some (Done op reply))
first_is op [] reply e = absurd cc
first_is op (output ∷ outputs) reply e = elim (first_or (reply_of op output) (first_reply op outputs) reply e) [
  | inl here ↦ (0, ap Some (is_its_done op output reply here))
  | inr later ↦ let found = first_is op outputs reply later in (suc found.0, found.1)
]

both_none : (head rest : Option (List ℕ)) → or_else head rest ≡ None → (head ≡ None) × (rest ≡ None)
both_none None rest e = (refl, e)
both_none (Some found) rest e = absurd cc

-- where there is no first reply no output is a Done
no_done : (op : ℕ) (outputs : List Output) (i : ℕ) (reply : List ℕ) → first_reply op outputs ≡ None → slice_get outputs i ≡ Some (Done op reply) → ⊥
no_done op [] i reply e here = absurd cc
no_done op (output ∷ outputs) zero reply e here =
    let none = (both_none (reply_of op output) (first_reply op outputs) e).0 in
    let done : output ≡ Done op reply = one_of output (Done op reply) here in
    let some : reply_of op (Done op reply) ≡ Some reply = rw (is_same op) refl in
    let none_too : reply_of op (Done op reply) ≡ None = rw done at none in
    let both : None ≡ Some reply = sym none_too ∙ some in
    absurd cc
no_done op (output ∷ outputs) (suc i) reply e here = no_done op outputs i reply (both_none (reply_of op output) (first_reply op outputs) e).1 here

-- the reply of an end is that of a Done
end_is_done : (j : List Entry) (m op place : ℕ) (entry : Entry) (found : List ℕ) → slice_get j place ≡ Some entry → reply_in m op entry ≡ Some found
    → (i : ℕ) × IsDoneAt j m op place i found
end_is_done j m op place (Lost frame) found here ends = absurd cc
end_is_done j m op place (Step at input outputs) found here ends = elim (cases_Bool (at.0 == m)) [
  | inl is ↦
      let same : at.0 ≡ m = grind (arith, nat_tests) in
      let first : first_reply op outputs ≡ Some found = rw is at ends in
      let one = first_is op outputs found first in
      (one.0, record { at = at; input = input; outputs = outputs; here = here; same = same; done = one.1 })
  | inr other ↦
      let none : None ≡ Some found = rw other at ends in
      absurd cc
]

same_outputs : (a b : ModuleId) (x y : Input) (us vs : List Output) → Step a x us ≡ Step b y vs → us ≡ vs
same_outputs a b x y us vs e = cc

same_reply : (op : ℕ) (r s : List ℕ) → Done op r ≡ Done op s → r ≡ s
same_reply op r s e = cc

-- two Dones at the same place are the same
at_one_place : (j : List Entry) (m op place index : ℕ) (r s : List ℕ) → IsDoneAt j m op place index r → IsDoneAt j m op place index s → r ≡ s
at_one_place j m op place index r s d e =
    let entries = one_of (Step d.at d.input d.outputs) (Step e.at e.input e.outputs) (sym d.here ∙ e.here) in
    let outputs : d.outputs ≡ e.outputs = same_outputs d.at e.at d.input e.input d.outputs e.outputs entries in
    let there : slice_get e.outputs index ≡ Some (Done op r) = rw outputs at d.done in
    same_reply op r s (one_of (Done op r) (Done op s) (sym there ∙ e.done))

-- a reply is that of the only Done
pub the_only : (j : List Entry) (m op : ℕ) (found : List ℕ) → IsReply j m op found → HasOneDone j m op
    → (place index : ℕ) (reply : List ℕ) → IsDoneAt j m op place index reply → found ≡ reply
the_only j m op found is one place index reply done =
    let its = end_is_done j m op is.place is.end.entry found is.end.here is.end.ends in
    let same = one is.place its.0 place index found reply its.1 done in
    let there : IsDoneAt j m op place index found =
    subst (λ (i : ℕ). IsDoneAt j m op place i found) same.1 (subst (λ (k : ℕ). IsDoneAt j m op k its.0 found) same.0 its.1) in
    at_one_place j m op place index found reply there done

within : {X : Type 0} (xs : List X) (i : ℕ) (x : X) → slice_get xs i ≡ Some x → i < length xs
within [] i x e = absurd cc
within (y ∷ xs) zero x e = omega arith
within (y ∷ xs) (suc i) x e = let more = within xs i x e in omega (arith, more)

-- an op that ends nowhere has no Done
pub has_none : (j : List Entry) (m op : ℕ) → HasNoEnd j m op 0 (length j) → (place index : ℕ) (reply : List ℕ) → IsDoneAt j m op place index reply → ⊥
has_none j m op none place index reply done =
    let lt : place < length j = within j place (Step done.at done.input done.outputs) done.here in
    let ends = none place (Step done.at done.input done.outputs) (omega arith) lt done.here in
    let is : (done.at.0 == m) ≡ true = rw done.same (is_same m) in
    let first : first_reply op done.outputs ≡ None = rw is at ends in
    no_done op done.outputs index reply first done.done
