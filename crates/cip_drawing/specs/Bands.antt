-- Where lines go, and how bad it is that a text stands where other things do.
use Rattle.std.specs.Prelude.{ℕ, Bool, ◌≡◌, ◌+◌, ◌-◌, ◌*◌, ◌/◌, ◌%◌, ◌^◌, ◌≤◌, ◌==◌, ◌&&◌, ◌||◌}
use Rattle.std.specs.Prelude.{nat_le, nat_lt, min, max, if◌then◌else◌, List, fold, slice_get}
use Rattle.std.specs.Prelude.{Option, Some, None, false, is_some, ◌<◌}
use Rattle.cip_drawing.specs.declared.line.Line.{Line}
use Rattle.cip_drawing.specs.declared.areas.Area.{Area}
use Rattle.cip_drawing.specs.declared.areas.Passing.{Passing}
use Rattle.cip_drawing.specs.declared.areas.Band.{Band}

-- the line is at a height between these two
pub record IsBetween (line : Line) (top bottom : ℕ) : Type 0 where
  pub y : ℕ
  pub on : (min line.y1 line.y2 ≤ y) × (y ≤ max line.y1 line.y2)
  pub between : (top ≤ y) × (y ≤ bottom)

-- sums stop at the greatest number
abbrev pub most : ℕ → ℕ
most n = min n (2 ^ 64 - 1)

-- so many thousandths of a way
unfoldable pub share : ℕ → ℕ → ℕ
share way t = most (most ((way / 1000) * t) + most ((way % 1000) * t) / 1000)

-- a point so many thousandths of the way from one place to another
unfoldable pub between : ℕ → ℕ → ℕ → ℕ
between from to t = if nat_le from to then most (from + share (to - from) t)
    else from - share (from - to) t

-- how far a place is from the first of two others
unfoldable pub thousandths : ℕ → ℕ → ℕ → ℕ
thousandths from to at = if to - from == 0 then 0 else most ((at - from) * 1000) / (to - from)

-- where the line is at this height
unfoldable pub x_at : Line → ℕ → ℕ
x_at line y = if nat_le line.y1 line.y2
    then between line.x1 line.x2 (thousandths line.y1 line.y2 y)
    else between line.x2 line.x1 (thousandths line.y2 line.y1 y)

-- how far it goes to the left and to the right from one height to another
abbrev pub reach : Line → ℕ → ℕ → ℕ × ℕ
reach line high low = if line.x1 == line.x2 then (line.x1, most (line.x1 + 53))
    else (min (x_at line high) (x_at line low), max (x_at line high) (x_at line low))

-- the same between two heights; None where it is not there
unfoldable pub within : Line → ℕ → ℕ → Option (ℕ × ℕ)
within line top bottom =
    let high = max (min line.y1 line.y2) top in
    let low = min (max line.y1 line.y2) bottom in
    if nat_lt low high then None else Some (reach line high low)

-- two texts meet
abbrev pub meets : Area → Area → Bool
meets a b = nat_le a.left b.right && nat_le b.left a.right && nat_le a.top b.bottom
    && nat_le b.top a.bottom

abbrev pub is_over : Area → Option (ℕ × ℕ) → Bool
is_over area None = false
is_over area (Some sides) = nat_le area.left sides.1 && nat_le sides.0 area.right

-- the line goes through the text
abbrev pub is_crossed : Area → Line → Bool
is_crossed area line = is_over area (within line area.top area.bottom)

-- the line in a band goes through a text that begins or ends there
abbrev pub crosses : Area → Passing → Option Line → Bool
crosses area passing None = false
crosses area passing (Some line) =
    if nat_lt passing.right area.left || nat_lt area.right passing.left then false
    else if nat_le area.left passing.left && nat_le passing.right area.right
    then is_some (within line area.top area.bottom)
    else is_crossed area line

abbrev pub with_text : Area → ℕ → Area → ℕ
with_text area cost other = if meets area other then most (cost + 20) else cost

abbrev pub with_line : List Line → Area → ℕ → Passing → ℕ
with_line lines area cost passing =
    if crosses area passing (slice_get lines passing.line) then most (cost + 3) else cost

abbrev pub texts_cost : Area → List Area → ℕ → ℕ
texts_cost area texts before = fold (with_text area) before texts

abbrev pub lines_cost : List Line → Area → List Passing → ℕ → ℕ
lines_cost lines area passings before = fold (with_line lines area) before passings

-- how bad it is that a text stands here, by the things of one band and what was found before
abbrev pub band_cost : List Line → Area → Option Band → ℕ → ℕ
band_cost lines area None before = before
band_cost lines area (Some band) before =
    lines_cost lines area band.lines.items (texts_cost area band.texts.items before)

-- by those of the bands in which it begins and ends
abbrev pub whole_cost : List Line → List Band → Area → ℕ → ℕ
whole_cost lines bands area before =
    let first = band_cost lines area (slice_get bands (area.top / 34)) before in
    if area.top / 34 == area.bottom / 34 then first
    else band_cost lines area (slice_get bands (area.bottom / 34)) first

-- what is told of a number is right below a limit, and not below the limit where that is not
abbrev pub IsTold : ℕ → ℕ → ℕ → Type 0
IsTold limit told number = (number < limit → told ≡ number) × (limit ≤ number → limit ≤ told)
