-- Entries that the order does not tell apart are one entry.
use Rattle.std.proofs.Common.{◌≡◌, ℕ, Option, Some, None, refl, ap, ◌∙◌, rules}
use Rattle.std.specs.declared.cmp.Ordering.{Ordering}
use Rattle.std.specs.declared.cmp.Ordering.TheVariants.{Less, Equal, Greater}
use Rattle.std.specs.Ordering.{nat_cmp, ordering_then}
use Rattle.std.specs.Option.{option_cmp}
use Rattle.filc_num.specs.declared.c_int_type.CIntType.{CIntType}
use Rattle.c_types.specs.declared.ctype.Part.{Part}
use Rattle.c_types.specs.declared.ctype.Array.{Array}
use Rattle.c_types.specs.declared.ctype.Signature.{Signature}
use Rattle.c_types.specs.declared.ctype.Extent.{Extent}
use Rattle.c_types.specs.declared.ctype.CType.{CType}
use Rattle.c_types.specs.declared.ctype.CType.TheVariants.{Void, Integer, Enumeration, Pointer, ArrayOf, Function, Structure, Union}
use Rattle.c_types.specs.declared.entry.Entry.{Entry}
use Rattle.c_types.specs.declared.entry.Entry.TheVariants.{OfType, NoParameters, Parameters}
use denote.Struct.Record.{values_one}
use Rattle.c_types.specs.contracts.ctype.Extent as ExtentType
use Rattle.c_types.specs.contracts.ctype.Part as PartType
use Rattle.c_types.specs.contracts.ctype.Array as ArrayType
use Rattle.filc_num.specs.contracts.c_int_type.CIntTypeOrd.TheImpl as CIntTypeOrder
use Rattle.c_types.specs.contracts.ctype.PartOrd.TheImpl as PartOrder
use Rattle.c_types.specs.contracts.ctype.ArrayOrd.TheImpl as ArrayOrder
use Rattle.c_types.specs.contracts.ctype.SignatureOrd.TheImpl as SignatureOrder
use Rattle.c_types.specs.contracts.ctype.ExtentOrd.TheImpl as ExtentOrder
use Rattle.c_types.specs.contracts.ctype.CTypeOrd.TheImpl as TypeOrder
use Rattle.c_types.specs.contracts.entry.EntryOrd.TheImpl as EntryOrder

same_int_type : (a b : CIntType) → (CIntTypeOrder.ghosts).cmp a b ≡ Equal → a ≡ b
same_int_type a b h = search rules

same_part : (a b : Part) → (PartOrder.ghosts).cmp a b ≡ Equal → a ≡ b
same_part a b h = search rules

same_number : (a b : ℕ) → nat_cmp a b ≡ Equal → a ≡ b
same_number a b h = search rules

-- both parts of an order by two keys
both : (o p : Ordering) → ordering_then o p ≡ Equal → (o ≡ Equal) × (p ≡ Equal)
both Equal p h = (refl, h)
both Less p h = cc
both Greater p h = cc

same_extent : (a b : Extent) → (ExtentOrder.ghosts).cmp a b ≡ Equal → a ≡ b
same_extent a b h =
    let parts = both (nat_cmp a.size b.size) (nat_cmp a.align b.align) h in
    let size = same_number a.size b.size parts.0 in
    let align = same_number a.align b.align parts.1 in
    values_one ExtentType.struct ExtentType.the_propositions a b cc

same_contents : (a b : Option Extent) → option_cmp (ExtentOrder.ghosts).cmp a b ≡ Equal → a ≡ b
same_contents None None h = refl
same_contents (Some a) (Some b) h = ap Some (same_extent a b h)
same_contents _ _ h = cc

same_array : (a b : Array) → (ArrayOrder.ghosts).cmp a b ≡ Equal → a ≡ b
same_array a b h =
    let first = both ((PartOrder.ghosts).cmp a.element b.element) (ordering_then ((ExtentOrder.ghosts).cmp a.extent b.extent) (nat_cmp a.count b.count)) h in
    let second = both ((ExtentOrder.ghosts).cmp a.extent b.extent) (nat_cmp a.count b.count) first.1 in
    let element = same_part a.element b.element first.0 in
    let extent = same_extent a.extent b.extent second.0 in
    let count = same_number a.count b.count second.1 in
    values_one ArrayType.struct (ArrayType.the_propositions (PartType.the_row).coded (ExtentType.the_row).coded) a b cc

same_signature : (a b : Signature) → (SignatureOrder.ghosts).cmp a b ≡ Equal → a ≡ b
same_signature a b h = search rules

same_type : (a b : CType) → (TypeOrder.ghosts).cmp a b ≡ Equal → a ≡ b
same_type Void Void h = refl
same_type (Integer a) (Integer b) h = ap Integer (same_int_type a b h)
same_type (Enumeration a) (Enumeration b) h = ap Enumeration (same_number a b h)
same_type (Pointer a) (Pointer b) h = ap Pointer (same_part a b h)
same_type (ArrayOf a) (ArrayOf b) h = ap ArrayOf (same_array a b h)
same_type (Function a) (Function b) h = ap Function (same_signature a b h)
same_type (Structure a x) (Structure b y) h =
    let parts = both (nat_cmp a b) (option_cmp (ExtentOrder.ghosts).cmp x y) h in
    ap (λ (n : ℕ). Structure n x) (same_number a b parts.0) ∙ ap (Structure b) (same_contents x y parts.1)
same_type (Union a x) (Union b y) h =
    let parts = both (nat_cmp a b) (option_cmp (ExtentOrder.ghosts).cmp x y) h in
    ap (λ (n : ℕ). Union n x) (same_number a b parts.0) ∙ ap (Union b) (same_contents x y parts.1)
same_type _ _ h = cc

pub same_entry : (a b : Entry) → (EntryOrder.ghosts).cmp a b ≡ Equal → a ≡ b
same_entry (OfType a) (OfType b) h = ap OfType (same_type a b h)
same_entry NoParameters NoParameters h = refl
same_entry (Parameters a x) (Parameters b y) h =
    let parts = both (nat_cmp a b) (nat_cmp x y) h in
    ap (λ (n : ℕ). Parameters n x) (same_number a b parts.0) ∙ ap (Parameters b) (same_number x y parts.1)
same_entry _ _ h = cc

-- arrays with the same parts are one
pub array_by_parts : (a b : Array) → a.element ≡ b.element → a.extent.size ≡ b.extent.size → a.extent.align ≡ b.extent.align → a.count ≡ b.count → a ≡ b
array_by_parts a b element size align count =
    let extent : a.extent ≡ b.extent = values_one ExtentType.struct ExtentType.the_propositions a.extent b.extent cc in
    values_one ArrayType.struct (ArrayType.the_propositions (PartType.the_row).coded (ExtentType.the_row).coded) a b cc
