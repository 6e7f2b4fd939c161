-- The object that a request names: a class, an instance and perhaps an attribute (Volume 1,
-- Appendix C, logical segments).
use Rattle.std.specs.Prelude.{ℕ, Option, Some, None, List, [], ◌∷◌}
use Rattle.cip_base.specs.Words.{InstanceNumber}
use Rattle.cip_segment.specs.declared.segment.Segment.{Segment}
use Rattle.cip_segment.specs.declared.segment.Segment.TheVariants.{Class, Instance, Attribute}
use Rattle.cip_target.specs.declared.object.ObjectPath.{ObjectPath}

-- behind class and instance: nothing, or one attribute
abbrev pub attribute_in : List Segment → Option (Option ℕ)
attribute_in [] = Some None
attribute_in (Attribute a ∷ []) = Some (Some a)
attribute_in s = None

abbrev pub with_attribute : ℕ → InstanceNumber → Option (Option ℕ) → Option ObjectPath
with_attribute c i None = None
with_attribute c i (Some a) = Some (record { class_ = c; instance = i; attribute = a })

-- behind the class: an instance and perhaps an attribute
abbrev pub instance_in : ℕ → List Segment → Option ObjectPath
instance_in c (Instance i ∷ others) = with_attribute c i (attribute_in others)
instance_in c s = None

-- exactly a class, an instance and perhaps an attribute; any other path names no object
abbrev pub object_of : List Segment → Option ObjectPath
object_of (Class c ∷ others) = instance_in c others
object_of s = None
