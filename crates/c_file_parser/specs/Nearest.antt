-- What stands nearest to a declarator's name, by what it puts in scope in a function's body.
use Rattle.std.specs.Prelude.{List, [], ◌∷◌, Option, Some, None}
use Rattle.c_parts.specs.Scopes.{Scope}
use Rattle.c_syntax.specs.declared.expr.Pointer.{Pointer}
use Rattle.c_syntax.specs.declared.expr.Suffix.{Suffix, out-Suffix}
use Rattle.c_syntax.specs.declared.expr.SuffixKind.{SuffixKind, Function'}
use Rattle.c_syntax.specs.declared.expr.Declarator.{Declarator, Declarator', out-Declarator, Row_of-Suffix, end_of-Suffix, more_of-Suffix}
use Rattle.c_syntax.specs.declared.expr.Core.{Core, Parens', more_of-Declarator, end_of-Declarator}

abbrev pub kind_scope : SuffixKind → Scope
kind_scope (Function' k parameters scope) = scope
kind_scope _ = []

abbrev pub suffix_scope : Suffix → Scope
suffix_scope s = kind_scope (out-Suffix s).kind

abbrev pub pointers_scope : List Pointer → Option Scope
pointers_scope [] = None
pointers_scope (p ∷ pointers) = Some []

abbrev pub own_of : List Suffix → List Pointer → Option Scope
own_of [] pointers = pointers_scope pointers
own_of (s ∷ rest) pointers = Some (suffix_scope s)

-- of a declarator's own pointers and suffixes: None where it has none
abbrev pub own : Declarator → Option Scope
own d = own_of (out-Declarator d).suffixes (out-Declarator d).pointers

-- the same, of suffixes as a declarator holds them
abbrev pub suffixes_scope : {m : _} → Row_of-Suffix m → List Pointer → Option Scope
suffixes_scope end_of-Suffix pointers = pointers_scope pointers
suffixes_scope (more_of-Suffix span kind rest) pointers = Some (kind_scope kind)

abbrev pub own_rows : Declarator → Option Scope
own_rows (Declarator' span name pointers core k suffixes) = suffixes_scope suffixes pointers

abbrev pub or_else : Option Scope → Option Scope → Option Scope
or_else None outer = outer
or_else (Some scope) outer = Some scope

abbrev mutual
  pub nearest : Declarator → Option Scope
  nearest (Declarator' span name pointers core k suffixes) = or_else (nearest_core core) (suffixes_scope suffixes pointers)

  pub nearest_core : Core → Option Scope
  nearest_core (Parens' p (more_of-Declarator inner end_of-Declarator)) = nearest inner
  nearest_core _ = None
