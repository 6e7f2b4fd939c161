-- A row: the room that is reserved, and the items that stand in it.
use Rattle.std.specs.Prelude.{ℕ, List, refl}
use Rattle.std.specs.Coded.{Coded, code_by, coded×, coded_list, coded_ℕ}

pub record Row (T : Type 0) : Type 0 where
  pub room : ℕ
  pub items : List T

-- a row is stored as the pair of its fields
abbrev pub row_code : {T : Type 0} → Coded T → Coded (Row T)
row_code {T} code =
    code_by
    (ℕ × List T)
    (coded× coded_ℕ (coded_list code))
    (λ r. (r.room, r.items))
    (λ p. record { room = p.0; items = p.1 })
    (λ _. refl)
