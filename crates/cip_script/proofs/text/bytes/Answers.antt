use Rattle.std.proofs.Common.{arith, ap, sym, ◌∙◌, ◌≡◌, ◌*◌, ◌/◌, ℕ, List, length, ◌%◌, ◌⊎◌, inl, inr, Some, None}
use Rattle.hex.specs.Hex.{decode_of}
use Rattle.cip_script.specs.Text.{ok_bytes}
use Rattle.std.proofs.lemmas.Bool.{false≢true}
use Rattle.std.proofs.lemmas.Slice.Eq.{bytes_eq-Decides}
use Rattle.cip_script.proofs.BytesLaws.{bytes_of_dash, bytes_of_none, bytes_of_pairs, not_empty, is_zero, front}
use Rattle.cip_script.proofs.text.bytes.Goals as goal
use Rattle.cip_script.proofs.text.bytes.Goals.{then-is_empty-via-then-is_empty, then-is_empty-via-else-is_empty+then-digits-eq1}

pub returns-then-eq : goal.returns-then-eq
returns-then-eq c = ap Some c.new.ensures.items ∙ sym (bytes_of_dash c.args.word.now ((bytes_eq-Decides _ _).0 (sym c.if-eq.ensures)))

pub returns-then-is_empty : goal.returns-then-is_empty
returns-then-is_empty c =
    let word = c.args.word.now in
    let e = c.as_bytes-digits.ensures.len in
    let bad : (length word ≡ 0) ⊎ (length word % 2 ≡ 1) = elim c.then-is_empty.branch [
      | then-is_empty-via-then-is_empty w ↦ inl (sym e ∙ is_zero _ (sym w.if-is_empty.true ∙ c.is_empty.ensures))
      | then-is_empty-via-else-is_empty+then-digits-eq1 w ↦ inr (rw e at w.if-digits-eq1.true)
    ] in
    sym (bytes_of_none word bad (λ same. false≢true (c.if-eq.ensures ∙ (bytes_eq-Decides _ _).1 same)))

pub returns-then-fill_bytes : goal.returns-then-fill_bytes
returns-then-fill_bytes c =
    let word = c.args.word.now in
    let out = c.fill_bytes.new.output in
    let e = c.as_bytes-digits.ensures.len in
    let some = not_empty _ c.if-is_empty.ensures in
    let n : ℕ = length word / 2 in
    let even : length word ≡ 2 * n = omega arith in
    let found : ok_bytes (decode_of word) ≡ Some out =
    ap (λ (w : List ℕ). ok_bytes (decode_of w)) (sym c.as_bytes-digits.ensures.value) ∙ c.if-fill_bytes.ensures in
    ap Some (front _ out _ (omega (arith, c.in_ok-found.ensures.len))) ∙ sym (bytes_of_pairs word n _ even (omega arith) found)

pub returns-else-fill_bytes : goal.returns-else-fill_bytes
returns-else-fill_bytes c =
    let word = c.args.word.now in
    let e = c.as_bytes-digits.ensures.len in
    let some = not_empty _ c.if-is_empty.ensures in
    let n : ℕ = length word / 2 in
    let even : length word ≡ 2 * n = omega arith in
    let found : ok_bytes (decode_of word) ≡ None =
    ap (λ (w : List ℕ). ok_bytes (decode_of w)) (sym c.as_bytes-digits.ensures.value) ∙ c.if-fill_bytes.ensures in
    sym (bytes_of_pairs word n _ even (omega arith) found)
