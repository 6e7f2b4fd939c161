-- What an open that fits says of its assemblies.
use Rattle.std.proofs.Common.{◌≡◌, ◌≤◌, ◌<◌, ℕ, Bool, true, false, cond, not, ◌&&◌, nat_lt, List, [], length, refl, sym, ap, subst, ◌∙◌, arith, Option, Some}
use Rattle.std.proofs.Common.{None, Ok, Err}
use Rattle.std.specs.Prelude.{IsSomeAnd}
use Rattle.std.specs.Option.{option_map, option_map_or, is_some}
use Rattle.std.specs.FinMap as map
use Rattle.std.proofs.lemmas.Bool.Decides.{nat_tests}
use Rattle.cip_segment.specs.Reading.{segments_of}
use Rattle.cip_open.specs.declared.request.OpenFields.{OpenFields}
use Rattle.cip_open.specs.Open.{Open}
use Rattle.cip_base.specs.declared.triad.Triad.{Triad}
use Rattle.cip_target.specs.declared.identity.IdentityFields.{IdentityFields}
use Rattle.cip_target.specs.declared.config.AssemblyConfig.{AssemblyConfig}
use Rattle.cip_target.specs.declared.link.EndLink.{EndLink}
use Rattle.cip_target.specs.declared.ends.Joined.{Joined}
use Rattle.cip_target.specs.declared.ends.EndRefusal.TheVariants.{NoSuchInstanceOrConfiguration, TransportClassNotSupported, SizeMismatch, OutputOwned}
use Rattle.cip_target.specs.ApplicationPath.{Application, application_of}
use Rattle.cip_target.specs.Assemblies.{AssemblyMap, size_in, config_in, config_with, written_over, owned_with}
use Rattle.cip_target.specs.Held.{Holdings}
use Rattle.cip_target.specs.Ends.{Ends, EndRow, class_of, is_configuration, are_sizes, link_of, sized_row, application_row, end_row, row_at, accepted}
use Rattle.cip_target.specs.Viewed.{application_joined, row_joined, IsJoined}

size_is : (m : AssemblyMap) (i : ℕ) → option_map (λ c. c.size) (config_in m i) ≡ size_in m i
size_is m i = elim (map.get m i) as (λ (o : Option (List ℕ)). option_map (λ c. c.size) (option_map (config_with i) o) ≡ option_map length o) [
  | None ↦ refl
  | Some held ↦ refl
]

size_at : (m : AssemblyMap) (i : ℕ) (c : AssemblyConfig) → config_in m i ≡ Some c → size_in m i ≡ Some c.size
size_at m i c e = sym (size_is m i) ∙ ap (option_map (λ (c : AssemblyConfig). c.size)) e

-- the row of an open whose assemblies are found
pub joined_is : (m : AssemblyMap) (owned : ℕ → Bool) (f : OpenFields) (a : Application) (j : Joined) (b : Bool) → IsJoined m a j → b ≡ owned j.consume.instance
    → row_joined b f j ≡ application_row m owned f (Some a)
joined_is m owned f a j b h e =
    ap (λ (b : Bool). sized_row (λ _. b) f (application_joined j) (Some j.config.size) (Some j.consume.size) (Some j.produce.size)) e
    ∙ ap (λ (a : Application). sized_row owned f a (Some j.config.size) (Some j.consume.size) (Some j.produce.size)) h.same
    ∙ ap (λ (x : Option ℕ). sized_row owned f a x (Some j.consume.size) (Some j.produce.size)) (sym (size_at m a.config j.config h.config))
    ∙ ap (λ (x : Option ℕ). sized_row owned f a (size_in m a.config) x (Some j.produce.size)) (sym (size_at m a.consume j.consume h.consume))
    ∙ ap (λ (x : Option ℕ). sized_row owned f a (size_in m a.config) (size_in m a.consume) x) (sym (size_at m a.produce j.produce h.produce))

-- ---- backwards

unless_first : (b : Bool) (x y : EndRow) (link : EndLink) → cond (not b) x y ≡ Ok link → (x ≡ Ok link → ⊥) → (b ≡ true) × (y ≡ Ok link)
unless_first true x y link e other = (refl, e)
unless_first false x y link e other = absurd (other e)

past_first : (b : Bool) (x y : EndRow) (link : EndLink) → cond b x y ≡ Ok link → (x ≡ Ok link → ⊥) → y ≡ Ok link
past_first true x y link e other = absurd (other e)
past_first false x y link e other = e

abbrev fits : EndLink → EndRow
fits link = Ok link

link_is : (a b : EndLink) → fits a ≡ fits b → a ≡ b
link_is a b e = cc

-- the configuration assembly exists, and the bytes fit it
record Sized (f : OpenFields) (a : Application) (config : Option ℕ) (link : EndLink) : Type 0 where
  size : ℕ
  stands : config ≡ Some size
  fits : is_configuration size a.bytes ≡ true
  same : link_of f a ≡ link

sized_fits : (owned : ℕ → Bool) (f : OpenFields) (a : Application) (x y z : Option ℕ) (link : EndLink) → sized_row owned f a x y z ≡ Ok link → Sized f a x link
sized_fits owned f a None y z link e = absurd (let no : (Err NoSuchInstanceOrConfiguration) ≡ Ok link = e in cc)
sized_fits owned f a (Some config) None z link e = absurd (let no : (Err NoSuchInstanceOrConfiguration) ≡ Ok link = e in cc)
sized_fits owned f a (Some config) (Some consume) None link e = absurd (let no : (Err NoSuchInstanceOrConfiguration) ≡ Ok link = e in cc)
sized_fits owned f a (Some config) (Some consume) (Some produce) link e =
    let first = unless_first (is_configuration config a.bytes) (Err NoSuchInstanceOrConfiguration) _ link e (λ no. cc) in
    let second = past_first (nat_lt 1 (class_of f.transport)) (Err TransportClassNotSupported) _ link first.1 (λ no. cc) in
    let third = unless_first (are_sizes f consume produce) (Err SizeMismatch) _ link second (λ no. cc) in
    let fourth = past_first (nat_lt 0 consume && owned a.consume) (Err OutputOwned) _ link third.1 (λ no. cc) in
    record { size = config; stands = refl; fits = first.0; same = link_is _ _ fourth }

-- at least as many bytes as the assembly has
long_enough : (size : ℕ) (b : List ℕ) → is_configuration size b ≡ true → size ≤ length b
long_enough size b e = grind (arith, nat_tests)

held_fits : (m : AssemblyMap) (f : OpenFields) (a : Application) (link : EndLink) → Sized f a (size_in m a.config) link
    → IsSomeAnd (map.get m link.config) (λ held. length held ≤ length a.bytes)
held_fits m f a link s =
    let here : IsSomeAnd (map.get m a.config) (λ held. length held ≤ length a.bytes) =
    elim (map.get m a.config) as (λ (o : Option (List ℕ)). option_map length o ≡ Some s.size → IsSomeAnd o (λ held. length held ≤ length a.bytes)) [
      | None ↦ λ e. cc
      | Some held ↦ λ e. let same : length held ≡ s.size = cc in let le = long_enough s.size a.bytes s.fits in omega arith
    ] s.stands in
    subst (λ (l : EndLink). IsSomeAnd (map.get m l.config) (λ held. length held ≤ length a.bytes)) s.same here

abbrev pub FitsWith : AssemblyMap → EndLink → Option Application → Type 0
FitsWith m link None = ⊥
FitsWith m link (Some a) = IsSomeAnd (map.get m link.config) (λ held. length held ≤ length a.bytes)

-- an open that fits has an application path, whose configuration bytes are at least as many as the assembly has, whatever is owned
pub fits_row : (m : AssemblyMap) (owned : ℕ → Bool) (o : Open) (link : EndLink) → end_row m owned o ≡ Ok link
    → FitsWith m link (application_of (segments_of o.path))
unfolding end_row
fits_row m owned o link e =
    elim (application_of (segments_of o.path)) as (λ (p : Option Application). application_row m owned o.fields p ≡ Ok link → FitsWith m link p) [
      | None ↦ λ e. cc
      | Some a ↦ λ e. held_fits m o.fields a link
          (sized_fits owned o.fields a (size_in m a.config) (size_in m a.consume) (size_in m a.produce) link e)
    ] e

pub fitting : (t : Ends) (o : Open) (link : EndLink) → row_at t o ≡ Ok link → FitsWith t.objects.assemblies link (application_of (segments_of o.path))
fitting t o link e = fits_row t.objects.assemblies (λ i. is_some (map.get t.owners i)) o link e

-- ---- as `accept` does it

pub accept_asks : (t : Ends) (o : Open) (link : EndLink) (a : Application) (m : AssemblyMap) (i : ℕ) → row_at t o ≡ Ok link
    → Some a ≡ application_of (segments_of o.path) → m ≡ t.objects.assemblies → i ≡ link.config → IsSomeAnd (map.get m i) (λ held. length held ≤ length a.bytes)
accept_asks t o link a m i e path same at =
    let there : FitsWith t.objects.assemblies link (Some a) = subst (FitsWith t.objects.assemblies link) (sym path) (fitting t o link e) in
    let here : IsSomeAnd (map.get m link.config) (λ held. length held ≤ length a.bytes) =
    subst (λ (m : AssemblyMap). IsSomeAnd (map.get m link.config) (λ held. length held ≤ length a.bytes)) (sym same) there in
    subst (λ (i : ℕ). IsSomeAnd (map.get m i) (λ held. length held ≤ length a.bytes)) (sym at) here

abbrev target_of : IdentityFields → Holdings → Ends
target_of identity h = record { objects = record { identity = identity; assemblies = h.bytes }; owners = h.owners }

-- with the owner of one instance, and the bytes of another
abbrev taken : Ends → ℕ → ℕ → List ℕ → Triad → Ends
taken t i j b triad = record {
  objects = record { identity = t.objects.identity; assemblies = written_over t.objects.assemblies j b (map.get t.objects.assemblies j) };
  owners = owned_with t.owners i triad (size_in t.objects.assemblies i);
}

pub accept_is : (t : Ends) (o : Open) (link : EndLink) (a : Application) (identity : IdentityFields) (h owned written : Holdings) (i j : ℕ)
    → target_of identity h ≡ t → owned ≡ record { bytes = h.bytes; owners = owned_with h.owners i o.fields.triad (size_in h.bytes i) }
    → written ≡ record { bytes = written_over owned.bytes j a.bytes (map.get owned.bytes j); owners = owned.owners }
    → i ≡ link.consume → j ≡ link.config → Some a ≡ application_of (segments_of o.path) → target_of identity written ≡ accepted t link o
accept_is t o link a identity h owned written i j is own write at_i at_j path =
    ap (target_of identity) write
    ∙ ap (λ (h : Holdings). target_of identity (record { bytes = written_over h.bytes j a.bytes (map.get h.bytes j); owners = h.owners })) own
    ∙ ap (λ (t : Ends). taken t i j a.bytes o.fields.triad) is
    ∙ ap (λ (i : ℕ). taken t i j a.bytes o.fields.triad) at_i
    ∙ ap (λ (j : ℕ). taken t link.consume j a.bytes o.fields.triad) at_j
    ∙ ap (λ (p : Option Application). taken t link.consume link.config (option_map_or (λ a. a.bytes) p []) o.fields.triad) path

-- ---- for callers

owned_alike : (size : ℕ) (x y : Bool) → (0 < size → x ≡ y) → (nat_lt 0 size && x) ≡ (nat_lt 0 size && y)
owned_alike size x y same =
    elim (nat_lt 0 size) as (λ b. nat_lt 0 size ≡ b → (b && x) ≡ (b && y)) [
      | true ↦ λ e. let some : 0 < size = grind (arith, nat_tests) in same some
      | false ↦ λ e. refl
    ] refl

sized_alike : (owned other : ℕ → Bool) (f : OpenFields) (a : Application) (x y z : Option ℕ)
    → ((size : ℕ) → y ≡ Some size → 0 < size → owned a.consume ≡ other a.consume) → sized_row owned f a x y z ≡ sized_row other f a x y z
sized_alike owned other f a None y z same = refl
sized_alike owned other f a (Some config) None z same = refl
sized_alike owned other f a (Some config) (Some consume) None same = refl
sized_alike owned other f a (Some config) (Some consume) (Some produce) same =
    ap (λ (b : Bool). cond (not (is_configuration config a.bytes)) (Err NoSuchInstanceOrConfiguration)
    (cond (nat_lt 1 (class_of f.transport)) (Err TransportClassNotSupported)
    (cond (not (are_sizes f consume produce)) (Err SizeMismatch) (cond b (Err OutputOwned) (Ok (link_of f a))))))
    (owned_alike consume (owned a.consume) (other a.consume) (same consume refl))

-- the row of an open looks at the owners of instances that have bytes alone
pub row_alike : (m : AssemblyMap) (owned other : ℕ → Bool) (o : Open) → ((i size : ℕ) → size_in m i ≡ Some size → 0 < size → owned i ≡ other i)
    → end_row m owned o ≡ end_row m other o
unfolding end_row
row_alike m owned other o same =
    elim (application_of (segments_of o.path)) as (λ (p : Option Application). application_row m owned o.fields p ≡ application_row m other o.fields p) [
      | None ↦ refl
      | Some a ↦ sized_alike owned other o.fields a (size_in m a.config) (size_in m a.consume) (size_in m a.produce)
          (λ size is some. same a.consume size is some)
    ]
