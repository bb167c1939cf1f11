-- The need of statements as the code has them in a tree.
use Rattle.std.specs.Prelude.{ℕ, Option, Some, None}
use Rattle.c_syntax.specs.declared.file.Statement.{Statement, out-Statement}
use Rattle.c_file_rules.specs.Values.{kind_temporaries}

abbrev pub statement_temporaries : Statement → ℕ
statement_temporaries x = kind_temporaries (out-Statement x).kind

abbrev pub otherwise_temporaries : Option Statement → ℕ
otherwise_temporaries None = 0
otherwise_temporaries (Some x) = statement_temporaries x
