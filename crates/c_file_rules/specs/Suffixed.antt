-- A declarator's suffixes with one more behind them.
use Rattle.std.specs.Prelude.{[], ◌∷◌, ◌++◌}
use Rattle.std.specs.Option.{option_or}
use Rattle.c_file_rules.specs.declared.parts.Suffixed.{Suffixed}
use Rattle.c_file_rules.specs.Declarators.{Formed}

abbrev pub suffix_on : Formed → Suffixed → Formed
suffix_on f x =
    record { derivations = f.derivations ++ x.derivation ∷ []; prototype = option_or f.prototype x.prototype }
