use Rattle.std.proofs.Common.{arith, ap, sym, ◌∙◌, ◌≡◌, ◌*◌, ◌/◌, ℕ, List, length, length-take, Some}
use Rattle.hex.specs.Hex.{decode_of}
use Rattle.cip_script.specs.Text.{ok_bytes}
use Rattle.cip_script.proofs.BytesLaws.{bytes_of_pairs, front}
use Rattle.cip_script.proofs.text.bytes_into.Goals as goal

pub returns-then-fill_bytes-clause-found : goal.returns-then-fill_bytes-clause-found
returns-then-fill_bytes-clause-found c =
    let word = c.args.word.now in
    let out = c.fill_bytes.new.output in
    let e = c.as_bytes-digits.ensures.len in
    let n : ℕ = length word / 2 in
    let even : length word ≡ 2 * n = omega arith in
    let found : ok_bytes (decode_of word) ≡ Some out =
    ap (λ (w : List ℕ). ok_bytes (decode_of w)) (sym c.as_bytes-digits.ensures.value) ∙ c.if-fill_bytes.ensures in
    let same : length out ≡ n = omega (arith, c.fill_bytes.auto.output, length-take (length c.as_bytes-digits.result.now / 2) c.args.room.now) in
    let auto = c.fill_bytes.auto.output in
    bytes_of_pairs word n _ even (omega arith) found ∙ ap Some (sym (front _ out _ (omega arith)))
