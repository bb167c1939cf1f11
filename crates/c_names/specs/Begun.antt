-- The functions that are one operation each, as the code has them.
use Rattle.std.specs.Prelude.{map}
use Rattle.filc_num.specs.declared.c_int_type.CIntType.TheVariants as kind
use Rattle.c_types.specs.declared.derivation.Derivation.{Derivation}
use Rattle.c_types.specs.declared.derivation.Derivation.TheVariants as derivation
use Rattle.c_names.specs.declared.operations.Intrinsic.{Intrinsic as Row}
use Rattle.c_names.specs.declared.operations.Written.{Written as Name}
use Rattle.c_names.specs.declared.operations.Written.TheVariants as name
use Rattle.c_file_rules.specs.Operations.{Written, VoidType, Kind, AtomicKind, PointerTo, Intrinsic, object, thread_function}

abbrev pub a_pointer : Derivation
a_pointer = derivation.Pointer (record { 0 = 0 })

abbrev pub seen_written : Name → Written
seen_written name.Void = VoidType
seen_written (name.Kind k) = Kind k
seen_written name.Object = object
seen_written name.Lock = PointerTo (AtomicKind kind.Int)
seen_written name.Thread = PointerTo thread_function

abbrev pub seen_intrinsic : Row → Intrinsic
seen_intrinsic row =
    record {
      operation = row.operation;
      name = row.name.now;
      result = seen_written row.gives;
      parameters = map seen_written row.takes.now;
    }
