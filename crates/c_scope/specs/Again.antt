-- Which declarations of one name may stand together (C11 6.7p3), and what the name stands for after them.
--
-- In one block and name space a name is declared once. But an equal typedef may follow a typedef, and a tag
-- may be named as often as one likes, where its list of members or constants stands once. Declarations with
-- linkage may follow one another, in one block or in several: they declare one thing, of one type and one
-- linkage in all scopes, with one body or initialiser at most.
use Rattle.std.specs.Prelude.{Bool, true, false, not, ◌&&◌, ◌||◌, ◌==◌, if◌then◌else◌, Option, Some, None}
use Rattle.c_types.specs.declared.ctype.Part.{Part}
use Rattle.c_tree.specs.declared.declared.Definition.{Definition}
use Rattle.c_tree.specs.declared.declared.Definition.TheVariants as definition
use Rattle.c_tree.specs.declared.declared.Linkage.{Linkage}
use Rattle.c_tree.specs.declared.declared.Linkage.TheVariants.{NoLinkage, Internal, External, Prior}
use Rattle.c_tree.specs.declared.declared.Declared.{Declared}
use Rattle.c_tree.specs.declared.declared.Declared.TheVariants.{Object, Function, Typedef, Constant, Tag}

-- one type with the same qualifiers
abbrev pub same_part : Part → Part → Bool
same_part a b = a.number == b.number && a.qualifiers.0 == b.qualifiers.0

abbrev pub same_linkage : Linkage → Linkage → Bool
same_linkage NoLinkage NoLinkage = true
same_linkage Internal Internal = true
same_linkage External External = true
same_linkage Prior Prior = true
same_linkage _ _ = false

abbrev pub linkage_of : Declared → Linkage
linkage_of (Object o) = o.linkage
linkage_of (Function f) = f.linkage
linkage_of (Typedef ty) = NoLinkage
linkage_of (Constant value) = NoLinkage
linkage_of (Tag tag) = NoLinkage

abbrev pub is_linked : Linkage → Bool
is_linked NoLinkage = false
is_linked Internal = true
is_linked External = true
is_linked Prior = true

abbrev pub has_linkage : Declared → Bool
has_linkage d = is_linked (linkage_of d)

-- `extern`, and a function without a storage word, follow what stood before
abbrev pub prior_linkage : Option Declared → Linkage
prior_linkage None = External
prior_linkage (Some before) = linkage_of before

abbrev pub settled_linkage : Option Declared → Linkage → Linkage
settled_linkage before NoLinkage = NoLinkage
settled_linkage before Internal = Internal
settled_linkage before External = External
settled_linkage before Prior = prior_linkage before

abbrev pub with_linkage : Linkage → Declared → Declared
with_linkage own (Object o) = Object (record o { linkage = own })
with_linkage own (Function f) = Function (record f { linkage = own })
with_linkage own d = d

-- whether a declaration defines an object by itself
abbrev pub is_full : Definition → Bool
is_full definition.None = false
is_full definition.Tentative = false
is_full definition.Full = true

-- how far two declarations define an object
abbrev pub further : Definition → Definition → Definition
further definition.None b = b
further definition.Tentative definition.None = definition.Tentative
further definition.Tentative b = b
further definition.Full b = definition.Full

-- one thing, of one type and one linkage, that isn't defined twice
abbrev pub is_one_thing : Declared → Declared → Bool
is_one_thing (Object a) (Object b) = same_part a.ty b.ty && same_linkage a.linkage b.linkage && not (is_full a.definition && is_full b.definition)
is_one_thing (Function a) (Function b) = a.ty == b.ty && same_linkage a.linkage b.linkage && not (a.is_defined && b.is_defined)
is_one_thing _ _ = false

-- what stood before, which is defined now as far as one of the declarations defines it
abbrev pub merge : Declared → Declared → Declared
merge (Object a) (Object b) = Object (record a { definition = further a.definition b.definition })
merge (Function a) (Function b) = Function (record a { is_defined = a.is_defined || b.is_defined })
merge a b = a

-- a declaration with linkage, behind what the declarations of that name with linkage declared so far
abbrev pub behind : Option Declared → Declared → Option Declared
behind None what = Some what
behind (Some before) what = if is_one_thing before what then Some (merge before what) else None

-- a declaration without linkage, behind what the name stands for in its block
abbrev pub beside : Option Declared → Declared → Option Declared
beside None what = Some what
beside (Some (Typedef a)) (Typedef b) = if same_part a b then Some (Typedef a) else None
beside (Some (Tag a)) (Tag b) = if a.is_listed && b.is_listed then None else Some (Tag (record a { is_listed = a.is_listed || b.is_listed }))
beside (Some before) what = None

-- a name may be declared with linkage where its block doesn't declare it without
abbrev pub may_be_linked : Option Declared → Bool
may_be_linked None = true
may_be_linked (Some before) = has_linkage before

-- what a declaration makes the name stand for, or nothing where it is declared again: `here` is what its
-- block has, and `entity` what the declarations with linkage have declared
abbrev pub declared_as : Option Declared → Option Declared → Declared → Option Declared
declared_as here entity what =
    if has_linkage what then (if may_be_linked here then behind entity (with_linkage (settled_linkage entity (linkage_of what)) what) else None) else beside here what
