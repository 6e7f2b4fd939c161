-- What is read of the bytes of an Unconnected_Send is what was written, whatever its request and its route are.
use Rattle.std.proofs.Common.{◌≡◌, ℕ, ◌+◌, ◌%◌, ◌/◌, List, [], ◌∷◌, ◌++◌, length, take, drop, get_or, eqb, Result, Ok, Err, refl, sym, ap, ◌∙◌, append_assoc}
use Rattle.std.proofs.Common.{arith}
use Rattle.std.proofs.lemmas.List.{take_at, drop_at, length-append, drop-drop}
use Rattle.std.proofs.lemmas.Bool.{cond_both, eqb-true, eqb-false}
use Rattle.cip_base.specs.Fields.{word, pad}
use Rattle.cip_message.specs.Counted.{counted_path_at}
use Rattle.cip_message.specs.Numbers.{word_in}
use Rattle.cip_message.specs.declared.fault.DataFault.{DataFault}
use Rattle.cip_message.specs.declared.fault.DataFault.TheVariants as faults
use Rattle.cip_message.proofs.Words.{word_again}
use Rattle.cip_unconnected.specs.Unconnected.{Unconnected, unconnected_data}
use Rattle.cip_unconnected.specs.UnconnectedAt.{route_place, with_route, unconnected_at}
use Rattle.cip_message.proofs.ReadAgain.{path_part_read}

pad_len : (n : ℕ) → length (pad n) ≡ n % 2
pad_len n = cond_both (eqb (n % 2) 1) (0 ∷ []) [] (λ (p : List ℕ). length p ≡ n % 2) (λ t. let one = eqb-true (n % 2) 1 t in omega (arith, one))
    (λ t. let other = eqb-false (n % 2) 1 t in omega (arith, other))

module _ (u : Unconnected) where
  abbrev written : List ℕ
  written = unconnected_data u

  -- the route size, the reserved byte and the route
  abbrev tail : List ℕ
  tail = (length u.route / 2) ∷ 0 ∷ u.route

  -- what stands before them
  abbrev front : List ℕ
  front = u.timing.tick ∷ u.timing.ticks ∷ word (length u.request) ++ (u.request ++ pad (length u.request))

  size_is : word_in written 2 ≡ length u.request
  size_is = word_again (length u.request)

  parted : written ≡ front ++ tail
  parted =
      ap (λ (z : List ℕ). u.timing.tick ∷ u.timing.ticks ∷ word (length u.request) ++ z) (sym (append_assoc u.request (pad (length u.request)) tail))

  front_len : length front ≡ 4 + (length u.request + length u.request % 2)
  front_len = let p = pad_len (length u.request) in let sum = length-append u.request (pad (length u.request)) in omega (arith, p, sum)

  place_is : route_place written ≡ length front
  place_is = ap (λ (z : ℕ). 4 + (z + z % 2)) size_is ∙ sym front_len

  route_is : drop (route_place written + 2) written ≡ u.route
  route_is =
      sym (drop-drop 2 (route_place written) written)
      ∙ ap (λ (z : List ℕ). drop 2 z) (ap (λ (z : List ℕ). drop (route_place written) z) parted ∙ drop_at front tail (route_place written) (sym place_is))

  request_is : take (word_in written 2) (drop 4 written) ≡ u.request
  request_is =
      ap (λ (j : ℕ). take j (drop 4 written)) size_is ∙ take_at u.request (pad (length u.request) ++ tail) (length u.request) refl

  abbrev made : List ℕ → Unconnected
  made route = record {
    timing = record { tick = get_or written 0 0; ticks = get_or written 1 0 };
    request = take (word_in written 2) (drop 4 written);
    route =
        route;
  }

  with_route_read : (r : Result (List ℕ) DataFault) (v : Unconnected) → with_route written r ≡ Ok v → (route : List ℕ) × (r ≡ Ok route) × (v ≡ made route)
  with_route_read (Ok route) v e = (route, refl, cc)
  with_route_read (Err faults.Short) v e = absurd (cc)
  with_route_read (Err faults.Long) v e = absurd (cc)
  with_route_read (Err (faults.Path f)) v e = absurd (cc)

  pub unconnected_data_read : (v : Unconnected) → unconnected_at written ≡ Ok v → v ≡ u
  unfolding unconnected_at
  unconnected_data_read v e =
      let of = with_route_read (counted_path_at (route_place written) (route_place written + 2) written) v e in
      let route : of.0 ≡ u.route = path_part_read (route_place written) (route_place written + 2) written of.0 of.1 ∙ route_is in
      of.2 ∙ (λ i. record { timing = u.timing; request = request_is i; route = route i })
