-- What is in scope in a function's body: what the parameter list nearest to its name declares.
use Rattle.std.specs.Prelude.{List, [], ◌∷◌}
use Rattle.c_parts.specs.Scopes.{Scope}
use Rattle.c_syntax.specs.declared.expr.Pointer.{Pointer}
use Rattle.c_syntax.specs.declared.expr.SuffixKind.{SuffixKind, Function'}
use Rattle.c_syntax.specs.declared.expr.Declarator.{Declarator, Declarator'}
use Rattle.c_syntax.specs.declared.expr.Core.{Core, Parens', more_of-Declarator, end_of-Declarator}
use Rattle.c_syntax.specs.declared.expr.Declarator.{Row_of-Suffix, end_of-Suffix, more_of-Suffix}

-- what stands nearest to a declarator's name: nothing, a parameter list that declares so much, or anything else
pub data Nearest : Type 0 where
  Alone : Nearest
  Parameters : Scope → Nearest
  Another : Nearest

abbrev nearer : Nearest → Nearest → Nearest
nearer Alone outer = outer
nearer inner outer = inner

abbrev suffix_near : SuffixKind → Nearest
suffix_near (Function' k parameters scope) = Parameters scope
suffix_near _ = Another

abbrev pointers_near : List Pointer → Nearest
pointers_near [] = Alone
pointers_near (p ∷ pointers) = Another

abbrev suffixes_near : {m : _} → Row_of-Suffix m → List Pointer → Nearest
suffixes_near end_of-Suffix pointers = pointers_near pointers
suffixes_near (more_of-Suffix span kind rest) pointers = suffix_near kind

abbrev mutual
  nearest : Declarator → Nearest
  nearest (Declarator' span name pointers core k suffixes) = nearer (nearest_core core) (suffixes_near suffixes pointers)

  nearest_core : Core → Nearest
  nearest_core (Parens' p (more_of-Declarator inner end_of-Declarator)) = nearest inner
  nearest_core _ = Alone

abbrev scope_in : Nearest → Scope
scope_in (Parameters scope) = scope
scope_in _ = []

abbrev pub body_scope : Declarator → Scope
body_scope d = scope_in (nearest d)
