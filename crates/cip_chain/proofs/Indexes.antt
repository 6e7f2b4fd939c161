-- An index of a journal, one entry more at a time.
use Rattle.std.proofs.Common.{◌≡◌, ℕ, zero, suc, ◌+◌, ◌≤◌, ◌<◌, Bool, true, false, cond, ◌&&◌, ◌==◌, not, List, [], ◌∷◌, ◌++◌, length}
use Rattle.std.proofs.Common.{Option, Some, None, refl, sym, ap, ◌∙◌, leb, eqb, arith}
use Rattle.std.proofs.Common.{◌-◌, reverse, take, drop, subst, inl, inr, append_assoc, append-nil}
use Rattle.std.specs.Prelude.{nat_le, option_and_then, option_map, slice_get, is_some}
use Rattle.std.specs.List.{list_any}
use Rattle.std.specs.BTreeMap.{get_by, is_at}
use Rattle.std.specs.Map.{lookup}
use Rattle.std.specs.Ordering.{nat_cmp, ordering_then, is_eq}
use Rattle.std.specs.declared.cmp.Ordering.{Ordering}
use Rattle.std.specs.declared.cmp.Ordering.TheVariants.{Less, Equal, Greater}
use Rattle.std.proofs.lemmas.Bool.{eq-eqb, eqb-true, eqb-false, and_parts}
use Rattle.std.proofs.lemmas.Bool.Decides.{nat_tests}
use Rattle.std.proofs.lemmas.List.{length-append, length-reverse, length-take-le, reverse-append, reverse-reverse, take-append-drop}
use Rattle.std.proofs.Math.Seq.{take-append_seam}
use Rattle.cip_base.specs.declared.numbers.ModuleId.{ModuleId}
use Rattle.cip_event.specs.declared.event.Command.{Command}
use Rattle.cip_event.specs.declared.event.Command.TheVariants as commands
use Rattle.cip_event.specs.declared.event.Output.{Output}
use Rattle.cip_laws.specs.Births.{or_else}
use Rattle.cip_world.specs.declared.journal.Entry.{Entry}
use Rattle.cip_world.specs.declared.journal.Entry.TheVariants.{Step, Lost}
use Rattle.cip_event.specs.declared.frame.FrameName.{FrameName}
use Rattle.cip_world.specs.declared.journal.Input.{Input}
use Rattle.cip_world.specs.declared.journal.Input.TheVariants as inputs
use Rattle.cip_world.specs.Journals.{Journal, entry_at}
use Rattle.cip_world.specs.Mirrors.{IsOlder}
use Rattle.cip_world.specs.Trails.{is_refusal, is_command, request_from, request_by, request_of, named, arrived_in}
use Rattle.cip_world.specs.Trails.{first_from, next_of, and_so_on, trail_of}
use Rattle.cip_world.proofs.Moments.{itself, older_trans}
use Rattle.cip_world.proofs.TrailGrows.{first_within, first_past, request_older}
use Rattle.cip_chain.specs.declared.index.Onward.{Onward}
use Rattle.cip_chain.specs.declared.index.Onward.TheVariants.{Nowhere, Sent, Arrived}
use Rattle.cip_chain.specs.declared.index.TrailIndex.{TrailIndex}
use Rattle.cip_chain.specs.Index.{Firsts, first_in, unless_refused, command_of, AddsCommand, sent, sent_at, after, AddsArrival}
use Rattle.cip_chain.specs.Index.{goes_to, along, arrived_as, came_of, onward_of}
use Rattle.cip_chain.specs.Index.{IsIndexed, IsIndexSoFar, IsIndexOf}

-- ---- the commands

and_false : (b : Bool) → (b && false) ≡ false
and_false true = refl
and_false false = refl

and_true : (b : Bool) → (b && true) ≡ b
and_true true = refl
and_true false = refl

abbrev is_key : Option (ℕ × ℕ) → ℕ → ℕ → Bool
is_key None m op = false
is_key (Some c) m op = (c.0 == m) && (c.1 == op)

neither : (b r : Bool) → ((b && false) && r) ≡ false
neither true r = refl
neither false r = refl

by_refusal : (r : Bool) (n o m op : ℕ) → (((n == m) && (o == op)) && not r) ≡ is_key (unless_refused r n (Some o)) m op
by_refusal true n o m op = and_false ((n == m) && (o == op))
by_refusal false n o m op = and_true ((n == m) && (o == op))

by_command : (m op : ℕ) (at : ModuleId) (c : Command) (outs : List Output)
    → is_command m op (Step at (inputs.Command c) outs) ≡ is_key (command_of (Step at (inputs.Command c) outs)) m op
by_command m op at (commands.Open o timing path params) outs = by_refusal (list_any is_refusal outs) at.0 o m op
by_command m op at (commands.LargeOpen o timing path params) outs = by_refusal (list_any is_refusal outs) at.0 o m op
by_command m op at (commands.Close o of timing) outs = neither (at.0 == m) (not (list_any is_refusal outs))
by_command m op at (commands.Send o timing path request) outs = by_refusal (list_any is_refusal outs) at.0 o m op
by_command m op at (commands.Enter of bytes) outs = neither (at.0 == m) (not (list_any is_refusal outs))
by_command m op at (commands.Set instance bytes) outs = neither (at.0 == m) (not (list_any is_refusal outs))
by_command m op at (commands.Produce instance) outs = neither (at.0 == m) (not (list_any is_refusal outs))

command_is : (m op : ℕ) (e : Entry) → is_command m op e ≡ is_key (command_of e) m op
command_is m op (Step at (inputs.Command c) outs) = by_command m op at c outs
command_is m op (Step at (inputs.Tick ms) outs) = neither (at.0 == m) (not (list_any is_refusal outs))
command_is m op (Step at (inputs.Frame port from name) outs) = neither (at.0 == m) (not (list_any is_refusal outs))
command_is m op (Lost frame) = refl

abbrev key_cmp : ℕ × ℕ → ℕ × ℕ → Ordering
key_cmp x y = ordering_then (nat_cmp x.0 y.0) (nat_cmp x.1 y.1)

both_equal : (x y : Ordering) → is_eq (ordering_then x y) ≡ (is_eq x && is_eq y)
both_equal Less y = refl
both_equal Equal y = refl
both_equal Greater y = refl

same_number : (q k : ℕ) → is_eq (nat_cmp q k) ≡ (q == k)
same_number q k = grind (arith, nat_tests)

key_test : (c : ℕ × ℕ) (m op : ℕ) → is_eq (key_cmp c (m, op)) ≡ is_key (Some c) m op
key_test c m op = both_equal (nat_cmp c.0 m) (nat_cmp c.1 op) ∙ (λ i. same_number c.0 m i && same_number c.1 op i)

or_none : (o : Option ℕ) → o ≡ or_else o None
or_none None = refl
or_none (Some x) = refl

-- no command
pub adds_none : (firsts : Firsts) (e : Entry) (k : ℕ) → command_of e ≡ None → AddsCommand firsts firsts e k
adds_none firsts e k none m op =
    let h : is_command m op e ≡ false = command_is m op e ∙ ap (λ (c : Option (ℕ × ℕ)). is_key c m op) none in
    or_none (first_in firsts m op) ∙ sym (ap (λ b. or_else (first_in firsts m op) (cond b (Some k) None)) h)

-- the key of a command is that of this op at this module
at_key : (e : Entry) (c : ℕ × ℕ) (m op : ℕ) → command_of e ≡ Some c → is_command m op e ≡ true → c ≡ (m, op)
at_key e c m op is h =
    let parts = and_parts (c.0 == m) (c.1 == op) (ap (λ (o : Option (ℕ × ℕ)). is_key o m op) (sym is) ∙ sym (command_is m op e) ∙ h) in
    λ i. (eqb-true c.0 m parts.0 i, eqb-true c.1 op parts.1 i)

known : (o : Option ℕ) (k : ℕ) → is_some o ≡ true → o ≡ or_else o (Some k)
known None k e = absurd (cc)
known (Some x) k e = refl

-- a command that is known
pub adds_known : (firsts : Firsts) (e : Entry) (c : ℕ × ℕ) (k : ℕ) → command_of e ≡ Some c → is_some (get_by (key_cmp c) firsts) ≡ true
    → AddsCommand firsts firsts e k
adds_known firsts e c k is there m op = by_test (is_command m op e) refl
  where
    by_test : (b : Bool) → is_command m op e ≡ b → first_in firsts m op ≡ or_else (first_in firsts m op) (cond (is_command m op e) (Some k) None)
    by_test true h =
        let same = at_key e c m op is h in
        known (first_in firsts m op) k (ap (λ (x : ℕ × ℕ). is_some (get_by (key_cmp x) firsts)) (sym same) ∙ there)
        ∙ sym (ap (λ b. or_else (first_in firsts m op) (cond b (Some k) None)) h)
    by_test false h = or_none (first_in firsts m op) ∙ sym (ap (λ b. or_else (first_in firsts m op) (cond b (Some k) None)) h)

none_there : (o : Option ℕ) → is_some o ≡ false → o ≡ None
none_there None e = refl
none_there (Some x) e = absurd (cc)

-- the first of its command
pub adds_first : (old new : Firsts) (e : Entry) (c : ℕ × ℕ) (k : ℕ) → command_of e ≡ Some c → is_some (get_by (key_cmp c) old) ≡ false
    → ((q : ℕ × ℕ) → get_by (key_cmp q) new ≡ cond (is_at (key_cmp c) q) (Some k) (get_by (key_cmp q) old)) → AddsCommand old new e k
adds_first old new e c k is absent puts m op = by_test (is_command m op e) refl
  where
    there : first_in new m op ≡ cond (is_command m op e) (Some k) (first_in old m op)
    there =
        puts (m, op)
        ∙ ap (λ b. cond b (Some k) (first_in old m op))
        (key_test c m op ∙ ap (λ (o : Option (ℕ × ℕ)). is_key o m op) (sym is) ∙ sym (command_is m op e))

    by_test : (b : Bool) → is_command m op e ≡ b → first_in new m op ≡ or_else (first_in old m op) (cond (is_command m op e) (Some k) None)
    by_test true h =
        let same = at_key e c m op is h in
        let none : first_in old m op ≡ None =
        none_there (first_in old m op) (ap (λ (x : ℕ × ℕ). is_some (get_by (key_cmp x) old)) (sym same) ∙ absent) in
        there ∙ ap (λ b. cond b (Some k) (first_in old m op)) h
        ∙ sym (λ i. or_else (none i) (cond (h i) (Some k) None))
    by_test false h =
        there ∙ ap (λ b. cond b (Some k) (first_in old m op)) h
        ∙ or_none (first_in old m op)
        ∙ sym (ap (λ b. or_else (first_in old m op) (cond b (Some k) None)) h)

-- ---- the requests

came_newest : (e : Entry) (j : Journal) (o : Option ℕ) → came_of (e ∷ j) (length j) (option_map (named (length j)) o) ≡ sent o
came_newest e j None = refl
came_newest e j (Some output) =
    ap (arrived_as output) (first_past (arrived_in (named (length j) output)) (length j + 1) (e ∷ j) (omega arith))

came_at : (e x : Entry) (j : Journal) → came_of (x ∷ j) (length j) (request_by (length j) e) ≡ sent_at e
came_at (Step m input outs) x j = came_newest x j (request_from 0 outs)
came_at (Lost frame) x j = refl

onward_newest : (e : Entry) (j : Journal) → onward_of (e ∷ j) (length j) ≡ sent_at e
onward_newest e j =
    ap (λ b. came_of (e ∷ j) (length j) (option_and_then (request_by (length j)) (cond b (Some e) (entry_at j (length j))))) (eq-eqb (length j) (length j) refl)
    ∙ came_at e e j

by_outputs : (k : ℕ) (o : Option ℕ) (f : FrameName) → option_map (named k) o ≡ Some f → f ≡ named k f.output
by_outputs k None f h = absurd (cc)
by_outputs k (Some output) f h =
    let same : named k output ≡ f = cc in sym same ∙ ap (λ (g : FrameName). named k g.output) same

by_entry : (k : ℕ) (o : Option Entry) (f : FrameName) → option_and_then (request_by k) o ≡ Some f → f ≡ named k f.output
by_entry k None f h = absurd (cc)
by_entry k (Some (Step m input outs)) f h = by_outputs k (request_from 0 outs) f h
by_entry k (Some (Lost frame)) f h = absurd (cc)

onward_older : (e : Entry) (j : Journal) (k : ℕ) → k < length j → onward_of (e ∷ j) k ≡ after e (length j) k (onward_of j k)
onward_older e j k l =
    ap (came_of (e ∷ j) k) (request_older e j k l) ∙ by_request (request_of j k) refl
  where
    by_first : (f : FrameName) (o : Option ℕ) → f ≡ named k f.output
        → arrived_as f.output (or_else o (cond (nat_le (k + 1) (length j) && arrived_in f e) (Some (length j)) None))
        ≡ after e (length j) k (arrived_as f.output o)
    by_first f None is =
        let low : leb (k + 1) (length j) ≡ true = grind (arith, nat_tests, l) in
        ap (λ b. arrived_as f.output (cond (b && arrived_in f e) (Some (length j)) None)) low
        ∙ by_arrival (arrived_in f e)
        ∙ ap (λ (g : FrameName). cond (arrived_in g e) (Arrived (length j)) (Sent f.output)) is
      where
        by_arrival : (b : Bool) → arrived_as f.output (cond b (Some (length j)) None) ≡ cond b (Arrived (length j)) (Sent f.output)
        by_arrival true = refl
        by_arrival false = refl
    by_first f (Some i) is = refl

    by_request : (o : Option FrameName) → request_of j k ≡ o → came_of (e ∷ j) k o ≡ after e (length j) k (came_of j k o)
    by_request None is = refl
    by_request (Some f) is = by_first f (first_from (arrived_in f) (k + 1) j) (by_entry k (entry_at j k) f is)

-- ---- one entry more

got_front : {A : Type 0} (xs : List A) (x : A) (i : ℕ) → i < length xs → slice_get (xs ++ x ∷ []) i ≡ slice_get xs i
got_front [] x i l = absurd (omega (arith, l))
got_front (y ∷ ys) x zero l = refl
got_front (y ∷ ys) x (suc i) l = got_front ys x i (omega (arith, l))

got_end : {A : Type 0} (xs : List A) (x : A) → slice_get (xs ++ x ∷ []) (length xs) ≡ Some x
got_end [] x = refl
got_end (y ∷ ys) x = got_end ys x

pub index_more : (onwards new : List Onward) (firsts more : Firsts) (e : Entry) (j : Journal) → IsIndexed onwards firsts j
    → AddsArrival (onwards ++ sent_at e ∷ []) new e (length onwards) → AddsCommand firsts more e (length onwards) → IsIndexed new more (e ∷ j)
index_more onwards new firsts more e j is arrives adds = record { size = size; onward = by_place; first = first }
  where
    size : length new ≡ length (e ∷ j)
    size = let one = arrives.size in let long = length-append onwards (sent_at e ∷ []) in let was = is.size in omega (arith, one, long, was)

    old : (k : ℕ) → k < length j → slice_get new k ≡ Some (onward_of (e ∷ j) k)
    old k l =
        let was = is.size in
        let within : k < length onwards = omega (arith, l, was) in
        arrives.before k within
        ∙ ap (option_map (after e (length onwards) k)) (got_front onwards (sent_at e) k within ∙ is.onward k l)
        ∙ ap (λ n. Some (after e n k (onward_of j k))) was
        ∙ ap (λ (o : Onward). Some o) (sym (onward_older e j k l))

    newest : slice_get new (length j) ≡ Some (onward_of (e ∷ j) (length j))
    newest =
        ap (slice_get new) (sym is.size) ∙ arrives.newest ∙ got_end onwards (sent_at e) ∙ ap (λ (o : Onward). Some o) (sym (onward_newest e j))

    by_place : (k : ℕ) → k < length (e ∷ j) → slice_get new k ≡ Some (onward_of (e ∷ j) k)
    by_place k l =
        elim (eqb k (length j)) as (λ b. eqb k (length j) ≡ b → slice_get new k ≡ Some (onward_of (e ∷ j) k)) [
          | true ↦ λ t. let same = eqb-true k (length j) t in subst (λ (n : ℕ). slice_get new n ≡ Some (onward_of (e ∷ j) n)) (sym same) newest
          | false ↦ λ t. let apart = eqb-false k (length j) t in old k (omega (arith, l, apart))
        ] refl

    first : (m op : ℕ) → first_in more m op ≡ first_from (is_command m op) 0 (e ∷ j)
    first m op =
        let all : leb 0 (length j) ≡ true = grind (arith, nat_tests) in
        adds m op
        ∙ (λ i. or_else (is.first m op i) (cond (is_command m op e) (Some (is.size i)) None))
        ∙ sym (ap (λ b. or_else (first_from (is_command m op) 0 j) (cond (b && is_command m op e) (Some (length j)) None)) all)

-- ---- trails

abbrev Begins : Journal → Option ℕ → Type 0
Begins j o = (k : ℕ) → o ≡ Some k → k < length j

to_next : (j : Journal) (k : ℕ) (o : Option FrameName)
    → goes_to (Some (came_of j k o)) ≡ option_and_then (λ f. first_from (arrived_in f) (k + 1) j) o
to_next j k None = refl
to_next j k (Some f) = by_first (first_from (arrived_in f) (k + 1) j)
  where
    by_first : (o : Option ℕ) → goes_to (Some (arrived_as f.output o)) ≡ o
    by_first None = refl
    by_first (Some i) = refl

next_begins : (j : Journal) (k : ℕ) (o : Option FrameName) → Begins j (option_and_then (λ f. first_from (arrived_in f) (k + 1) j) o)
next_begins j k None i e = absurd (cc)
next_begins j k (Some f) i e = (first_within (arrived_in f) (k + 1) j i e).0

along_is : (most : ℕ) (onwards : List Onward) (firsts : Firsts) (j : Journal) (o : Option ℕ) → IsIndexed onwards firsts j → Begins j o
    → along most onwards o ≡ and_so_on most j o
along_is zero onwards firsts j o is begins = refl
along_is (suc most) onwards firsts j None is begins = refl
along_is (suc most) onwards firsts j (Some k) is begins =
    let next : goes_to (slice_get onwards k) ≡ next_of j k = ap goes_to (is.onward k (begins k refl)) ∙ to_next j k (request_of j k) in
    ap (λ (o : Option ℕ). k ∷ along most onwards o) next
    ∙ ap (λ ks. k ∷ ks) (along_is most onwards firsts j (next_of j k) is (next_begins j k (request_of j k)))

pub trail_along : (onwards : List Onward) (firsts : Firsts) (j : Journal) (m op : ℕ) → IsIndexed onwards firsts j
    → along (length onwards) onwards (first_in firsts m op) ≡ trail_of j m op
unfolding trail_of
trail_along onwards firsts j m op is =
    (λ i. along (is.size i) onwards (is.first m op i))
    ∙ along_is (length j) onwards firsts j (first_from (is_command m op) 0 j) is (λ k e. (first_within (is_command m op) 0 j k e).0)

-- ---- an older part

older_behind : (zs k : Journal) → IsOlder k (zs ++ k)
older_behind [] k = itself k
older_behind (z ∷ zs) k = inr (older_behind zs k)

pub none_older : (j : Journal) → IsOlder [] j
none_older [] = refl
none_older (e ∷ j) = inr (none_older j)

pub take_older : (n : ℕ) (es : List Entry) → IsOlder (reverse (take n es)) (reverse es)
take_older n es =
    subst (λ (j : Journal). IsOlder (reverse (take n es)) j)
    (sym (reverse-append (take n es) (drop n es)) ∙ ap (λ (xs : List Entry). reverse xs) (take-append-drop n es))
    (older_behind (reverse (drop n es)) (reverse (take n es)))

newer_of : (k j : Journal) → IsOlder k j → (zs : Journal) × (j ≡ zs ++ k)
newer_of k [] e = ([], sym e)
newer_of k (e ∷ j) (inl is) = ([], sym is)
newer_of k (e ∷ j) (inr older) = let r = newer_of k j older in (e ∷ r.0, ap (λ (x : Journal). e ∷ x) r.1)

pub part_taken : (es : List Entry) (k : Journal) → IsOlder k (reverse es) → (length k ≤ length es) × (reverse (take (length k) es) ≡ k)
part_taken es k older =
    let (zs, is) = newer_of k (reverse es) older in
    let whole : es ≡ reverse k ++ reverse zs =
    sym (reverse-reverse es) ∙ ap (λ (xs : Journal). reverse xs) is ∙ reverse-append zs k in
    let long = ap length whole in
    let sum = length-append (reverse k) (reverse zs) in
    let same = length-reverse k in (
      omega (arith, long, sum, same),
      (λ i. reverse (take (sym same i) (whole i))) ∙ ap (λ (xs : List Entry). reverse xs) (take-append_seam (reverse k) (reverse zs)) ∙ reverse-reverse k,
    )

-- an index of a journal is one of what the journal grows to
pub index_later : (index : TrailIndex) (j k : Journal) → IsIndexOf index j → IsOlder j k → IsIndexOf index k
index_later index j k is older = record { part = is.part; older = older_trans is.part j k is.older older; indexed = is.indexed }

-- as much of it as was read
pub so_far : (index : TrailIndex) (es : List Entry) → IsIndexOf index (reverse es) → IsIndexSoFar index.onwards.items index.firsts es
so_far index es is =
    let taken = part_taken es is.part is.older in
    let size = is.indexed.size in
    let less = taken.0 in
    record {
      within = omega (arith, size, less);
      indexed = subst (IsIndexed index.onwards.items index.firsts) (sym (ap (λ n. reverse (take n es)) size ∙ taken.1)) is.indexed;
    }

-- one entry more was read
pub so_far_more : (onwards new : List Onward) (firsts more : Firsts) (es : List Entry) (k : ℕ) (e : Entry) → IsIndexSoFar onwards firsts es
    → k ≡ length onwards → k < length es → reverse (take (k + 1) es) ≡ e ∷ reverse (take k es)
    → ((j : Journal) → IsIndexed onwards firsts j → IsIndexed new more (e ∷ j)) → (k + 1 ≡ length new) × IsIndexSoFar new more es
so_far_more onwards new firsts more es k e is at l one adds =
    let now = adds (reverse (take k es)) (subst (λ (n : ℕ). IsIndexed onwards firsts (reverse (take n es))) (sym at) is.indexed) in
    let size = now.size in
    let long = length-reverse (take k es) in
    let most = length-take-le k es (omega (arith, l)) in
    let next : k + 1 ≡ length new = omega (arith, size, long, most) in (
      next,
      record { within = omega (arith, l, next); indexed = subst (IsIndexed new more) (sym one ∙ ap (λ n. reverse (take n es)) next) now },
    )

-- nothing was read yet
pub none_read : (index : TrailIndex) (j : Journal) → index.onwards.items ≡ [] → index.firsts.entries ≡ [] → IsIndexOf index j
none_read index j none empty = record {
  part = [];
  older = none_older j;
  indexed = record {
    size = ap (λ (os : List Onward). length os) none;
    onward = λ k l. absurd (omega (arith, l));
    first = λ m op. ap (λ es. lookup (is_at (key_cmp (m, op))) es) empty;
  };
}

-- all was read
pub all_read : (index : TrailIndex) (es : List Entry) → IsIndexed index.onwards.items index.firsts (reverse es) → IsIndexOf index (reverse es)
all_read index es is = record { part = reverse es; older = itself (reverse es); indexed = is }

-- some was read
pub some_read : (index : TrailIndex) (es : List Entry) → IsIndexSoFar index.onwards.items index.firsts es → IsIndexOf index (reverse es)
some_read index es is = record {
  part = reverse (take (length index.onwards.items) es);
  older = take_older (length index.onwards.items) es;
  indexed = is.indexed;
}

-- ---- the code's steps

-- an entry was read
pub index_after : (onwards pushed new : List Onward) (firsts more : Firsts) (e : Entry) (j : Journal) (k : ℕ) (onward : Onward)
    → IsIndexed onwards firsts j → k ≡ length onwards → onward ≡ sent_at e → pushed ≡ onwards ++ onward ∷ []
    → AddsArrival pushed new e k → AddsCommand firsts more e k → IsIndexed new more (e ∷ j)
index_after onwards pushed new firsts more e j k onward is at sends push arrives adds =
    index_more onwards new firsts more e j is
    (subst (λ (n : ℕ). AddsArrival (onwards ++ sent_at e ∷ []) new e n) at
    (subst (λ (os : List Onward). AddsArrival os new e k) (push ∙ ap (λ (o : Onward). onwards ++ o ∷ []) sends) arrives))
    (subst (λ (n : ℕ). AddsCommand firsts more e n) at adds)

nothing_along : (n : ℕ) (onwards : List Onward) → along n onwards None ≡ []
nothing_along zero onwards = refl
nothing_along (suc n) onwards = refl

-- a trail that is at its end
pub followed : (trail : List ℕ) (onwards : List Onward) (n : ℕ) (left : Option ℕ) → left ≡ None → trail ≡ trail ++ along n onwards left
followed trail onwards n left none =
    sym (append-nil trail) ∙ ap (λ ks. trail ++ ks) (sym (ap (λ (o : Option ℕ). along n onwards o) none ∙ nothing_along n onwards))

-- or it goes on
pub follows_on : (trail longer : List ℕ) (onwards : List Onward) (turn most k : ℕ) (left next : Option ℕ) (whole : List ℕ) → turn < most
    → left ≡ Some k → longer ≡ trail ++ k ∷ [] → next ≡ goes_to (slice_get onwards k)
    → trail ++ along (most - turn) onwards left ≡ whole → longer ++ along (most - (turn + 1)) onwards next ≡ whole
follows_on trail longer onwards turn most k left next whole l is push goes so =
    let more : most - turn ≡ suc (most - (turn + 1)) = omega arith in
    (λ i. push i ++ along (most - (turn + 1)) onwards (goes i))
    ∙ append_assoc trail (k ∷ []) (along (most - (turn + 1)) onwards (goes_to (slice_get onwards k)))
    ∙ sym (λ i. trail ++ along (more i) onwards (is i)) ∙ so
