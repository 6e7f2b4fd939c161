-- The text of a journal and that of its newest entry.
use Rattle.std.proofs.Common.{◌≡◌, ℕ, ◌+◌, List, [], ◌∷◌, ◌++◌, length, reverse, sym, ap, ◌∙◌, arith, append_assoc, append-nil}
use Rattle.std.proofs.lemmas.List.{length-reverse}
use Rattle.cip_world.specs.declared.journal.Entry.{Entry}
use Rattle.cip_console.specs.Live.{entries_text}
use Rattle.cip_console.specs.Transcript.{newest}
use Rattle.cip_transcript.specs.Show.{entry_text}

text_more : (names : List (List ℕ)) (k : ℕ) (entries : List Entry) (entry : Entry)
    → entries_text names k (entries ++ entry ∷ []) ≡ entries_text names k entries ++ entry_text names (k + length entries) entry
text_more names k [] entry =
    let same : k ≡ k + 0 = omega arith in append-nil (entry_text names k entry) ∙ ap (λ n. entry_text names n entry) same
text_more names k (first ∷ more) entry =
    let same : (k + 1) + length more ≡ k + length (first ∷ more) = omega arith in
    ap (λ rest. entry_text names k first ++ rest)
    (text_more names (k + 1) more entry ∙ ap (λ n. entries_text names (k + 1) more ++ entry_text names n entry) same)
    ∙ sym (append_assoc (entry_text names k first) (entries_text names (k + 1) more) (entry_text names (k + length (first ∷ more)) entry))

pub text_ends : (names : List (List ℕ)) (entries : List Entry) (entry : Entry)
    → entries_text names 0 (entries ++ entry ∷ []) ≡ entries_text names 0 entries ++ newest names (entry ∷ reverse entries)
text_ends names entries entry =
    let as_many = length-reverse entries in
    let same : 0 + length entries ≡ length (reverse entries) = omega (arith, as_many) in
    text_more names 0 entries entry ∙ ap (λ n. entries_text names 0 entries ++ entry_text names n entry) same
