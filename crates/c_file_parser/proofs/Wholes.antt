-- What stands in a scope of its own is read by its reader.
use Rattle.std.proofs.Common.{ℕ, [], ◌∷◌, refl}
use Rattle.c_parts.specs.declared.terminal.Terminal.TheVariants as t
use Rattle.c_parts.specs.Production.{mark}
use Rattle.c_parts.proofs.Whole.{Whole}
use Rattle.c_parts.proofs.Good.{token-good, and-good, made-good, many-good, optional-good}
use Rattle.c_parts.proofs.Following.{far-good}
use Rattle.c_syntax.specs.Values.{after, middle}
use Rattle.c_syntax.specs.Grammar.{inner}
use Rattle.c_syntax.specs.Files.{bodies, statement, if_of, while_of, do_of, for_of, switch_of}
use Rattle.c_syntax.proofs.Levels.{same-level}
use Rattle.c_syntax.proofs.BodyLevels.{same-bodies}
use Rattle.c_syntax.proofs.Statements.{statement-good, block-item-good, switch-item-good}
use Rattle.c_file_parser.specs.declared.constructs.Compound.{Compound}
use Rattle.c_file_parser.specs.declared.constructs.Compound.TheVariants as w
use Rattle.c_file_parser.specs.Constructs.{compound, block_braces, switch_braces}

pub compound_whole : (what : Compound) (d : ℕ) → Whole (compound what (inner d) (bodies d))
compound_whole w.If d =
    let g = same-level d in
    let h = same-bodies d in
    let otherwise = optional-good (made-good after (and-good (token-good (t.Else ∷ []) mark) h.branch refl)) refl in
    (made-good if_of (and-good (token-good (t.If ∷ []) mark) (and-good g.parens (far-good h.branch otherwise h.branch_low h.branch_high refl refl) refl) refl)).low
compound_whole w.While d =
    let g = same-level d in
    let h = same-bodies d in
    (made-good while_of (and-good (token-good (t.While ∷ []) mark) (and-good g.parens h.branch refl) refl)).low
compound_whole w.Do d =
    let g = same-level d in
    let h = same-bodies d in
    (made-good do_of (and-good (token-good (t.Do ∷ []) mark) (and-good h.branch (and-good (token-good (t.While ∷ []) mark) (and-good g.parens (token-good (t.Semicolon ∷ []) mark) refl) refl) refl) refl)).low
compound_whole w.For d =
    let h = same-bodies d in
    (made-good for_of (and-good (token-good (t.For ∷ []) mark) (and-good h.header h.branch refl) refl)).low
compound_whole w.Switch d =
    let g = same-level d in
    let h = same-bodies d in
    (made-good switch_of (and-good (token-good (t.Switch ∷ []) mark) (and-good g.parens h.switch_body refl) refl)).low

pub statement_whole : (d : ℕ) → Whole (statement (inner d) (bodies d))
statement_whole d = (statement-good (inner d) (inner d) (same-level d) (bodies d) (bodies d) (same-bodies d)).low

pub block_whole : (d : ℕ) → Whole (block_braces (inner d) (bodies d))
block_whole d =
    let item = block-item-good (inner d) (inner d) (same-level d) (bodies d) (bodies d) (same-bodies d) in
    (made-good middle (and-good (token-good (t.LeftBrace ∷ []) mark) (and-good (many-good item refl refl) (token-good (t.RightBrace ∷ []) mark) refl) refl)).low

pub switch_whole : (d : ℕ) → Whole (switch_braces (inner d) (bodies d))
switch_whole d =
    let item = switch-item-good (inner d) (inner d) (same-level d) (bodies d) (bodies d) (same-bodies d) in
    (made-good middle (and-good (token-good (t.LeftBrace ∷ []) mark) (and-good (many-good item refl refl) (token-good (t.RightBrace ∷ []) mark) refl) refl)).low
