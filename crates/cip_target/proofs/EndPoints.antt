-- The application path of an open that ends here.
use Rattle.std.proofs.Common.{◌≡◌, ℕ, Bool, true, false, cond, not, ◌&&◌, Ok, Err, Option, Some, None, refl}
use Rattle.std.specs.Prelude.{nat_lt}
use Rattle.cip_segment.specs.Reading.{segments_of}
use Rattle.cip_open.specs.declared.request.OpenFields.{OpenFields}
use Rattle.cip_open.specs.Open.{Open}
use Rattle.cip_target.specs.declared.link.EndLink.{EndLink}
use Rattle.cip_target.specs.declared.ends.EndRefusal.TheVariants as ends
use Rattle.cip_target.specs.ApplicationPath.{Application, application_of}
use Rattle.cip_target.specs.Assemblies.{AssemblyMap, size_in}
use Rattle.cip_target.specs.Ends.{EndRow, HasPoints, class_of, is_configuration, are_sizes, link_of, sized_row, application_row, end_row}

abbrev row : EndRow → EndRow
row r = r

last_row : (a b c d : Bool) (link found : EndLink)
    → row (cond a (Err ends.NoSuchInstanceOrConfiguration) (cond b (Err ends.TransportClassNotSupported)
    (cond c (Err ends.SizeMismatch) (cond d (Err ends.OutputOwned) (Ok link)))))
    ≡ Ok found → found ≡ link
last_row true b c d link found e = absurd (cc)
last_row false true c d link found e = absurd (cc)
last_row false false true d link found e = absurd (cc)
last_row false false false true link found e = absurd (cc)
last_row false false false false link found e = cc

sized_is : (owned : ℕ → Bool) (f : OpenFields) (a : Application) (x y z : Option ℕ) (link : EndLink) → sized_row owned f a x y z ≡ Ok link → link ≡ link_of f a
sized_is owned f a (Some config) (Some consume) (Some produce) link e =
    last_row (not (is_configuration config a.bytes)) (nat_lt 1 (class_of f.transport)) (not (are_sizes f consume produce)) (nat_lt 0 consume && owned a.consume)
    (link_of f a) link e
sized_is owned f a None y z link e = absurd (cc)
sized_is owned f a (Some config) None z link e = absurd (cc)
sized_is owned f a (Some config) (Some consume) None link e = absurd (cc)

application_is : (m : AssemblyMap) (owned : ℕ → Bool) (f : OpenFields) (x : Option Application) (link : EndLink) → application_row m owned f x ≡ Ok link
    → (a : Application) × (x ≡ Some a) × (link ≡ link_of f a)
application_is m owned f None link e = absurd (cc)
application_is m owned f (Some a) link e = (a, refl, sized_is owned f a (size_in m a.config) (size_in m a.consume) (size_in m a.produce) link e)

pub end_points : (m : AssemblyMap) (owned : ℕ → Bool) (o : Open) (link : EndLink) → end_row m owned o ≡ Ok link → HasPoints o link
unfolding end_row
end_points m owned o link e =
    let found = application_is m owned o.fields (application_of (segments_of o.path)) link e in
    record { application = found.0; path_is = found.1; link_is = found.2 }
