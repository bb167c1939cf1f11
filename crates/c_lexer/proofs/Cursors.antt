-- Lemmas on a cursor: one splice or one byte further.
use Rattle.std.proofs.Common.{◌≡◌, ℕ, ◌+◌, ◌<◌, ◌≤◌, ◌^◌, List, [], ◌∷◌, Bool, true, false, refl, arith, length, drop, get_or, ap, sym, ◌∙◌, drop-drop, length-drop, nat_lt}
use Rattle.std.proofs.lemmas.List.{drop_all, get_or-drop}
use Rattle.std.proofs.lemmas.Bool.{ltb-true, ltb-false}
use Rattle.c_lexer.specs.Classes.{line_feed}
use Rattle.c_lexer.specs.Source.{without_splices, lines_ended, lines_of, splice_at}
use Rattle.c_lexer.specs.declared.token.Origin.{Origin}
use Rattle.c_lexer.specs.declared.source.Cursor.{Cursor}
use Rattle.c_lexer.specs.Cursor.{Reaches, IsAt}
use Rattle.c_lexer.proofs.Splices.{begins_splice-drop, at_place, two_on, without_splices-splice, without_splices-byte, lines_of-splice, lines_of-byte}

-- no byte of a header ends a line
pub ended_less : (library : Bool) (line ended size place b : ℕ) → ended ≡ lines_ended library b → ended ≤ 1 → line < 2 ^ 32 → (library ≡ false → line + size < 2 ^ 32 + place) → place < size → line + ended < 2 ^ 32
ended_less true line ended size place b is small low room h = let none : ended ≡ 0 = is in omega arith
ended_less false line ended size place b is small low room h = omega (arith, room refl)

pub over_splice : (origin : Origin) (file : List ℕ) (cursor : Cursor) (ended : ℕ) → Reaches origin file cursor → true ≡ splice_at file cursor.place → cursor.place + 2 ≤ length file → ended ≡ lines_ended origin.library line_feed → ended ≤ 1 → Reaches origin file (record { byte = cursor.byte; place = cursor.place + 2; line = cursor.line + ended })
over_splice origin file cursor ended r is room ended_is small =
    let at = cursor.place in
    let begins = begins_splice-drop file at ∙ sym is in
    let lt : at < length file = omega arith in
    let joined_here = ap without_splices (at_place file at lt) ∙ without_splices-splice (get_or file at 0) (drop (at + 1) file) begins ∙ ap without_splices (two_on file at) in
    let lines_here = ap (lines_of origin.library cursor.line) (at_place file at lt) ∙ lines_of-splice origin.library cursor.line (get_or file at 0) (drop (at + 1) file) begins ∙ ap (lines_of origin.library (cursor.line + lines_ended origin.library line_feed)) (two_on file at) in
    record {
      within = room;
      before = omega (arith, r.before);
      small = λ h. omega (arith, r.small h);
      bytes = sym joined_here ∙ r.bytes;
      lines = ap (λ k. lines_of origin.library (cursor.line + k) (drop (at + 2) file)) ended_is ∙ sym lines_here ∙ r.lines;
    }

-- what is left behind the first of what is left
next_left : (x : ℕ) (rest whole : List ℕ) (n : ℕ) → x ∷ rest ≡ drop n whole → rest ≡ drop (n + 1) whole
next_left x rest whole n e = ap (drop 1) e ∙ drop-drop 1 n whole ∙ ap (λ k. drop k whole) (omega arith)

pub place_inside : (origin : Origin) (file : List ℕ) (cursor : Cursor) → Reaches origin file cursor → cursor.byte < length (without_splices file) → cursor.place < length file
unfolding without_splices
place_inside origin file cursor r h = by_case (nat_lt cursor.place (length file)) refl
  where
    by_case : (b : Bool) → nat_lt cursor.place (length file) ≡ b → cursor.place < length file
    by_case true e = ltb-true cursor.place (length file) e
    by_case false e =
        let none : [] ≡ drop cursor.byte (without_splices file) = sym (ap without_splices (drop_all cursor.place file (ltb-false cursor.place (length file) e))) ∙ r.bytes in
        let size : 0 ≡ length (drop cursor.byte (without_splices file)) = ap length none in
        absurd (omega (arith, length-drop cursor.byte (without_splices file)))

pub over_byte : (origin : Origin) (file : List ℕ) (cursor : Cursor) (ended : ℕ) → IsAt origin file cursor → cursor.place < length file → ended ≡ lines_ended origin.library (get_or file cursor.place 0) → ended ≤ 1 → Reaches origin file (record { byte = cursor.byte + 1; place = cursor.place + 1; line = cursor.line + ended })
over_byte origin file cursor ended a lt ended_is small =
    let r = a.reaches in
    let at = cursor.place in
    let byte = get_or file at 0 in
    let begins = begins_splice-drop file at ∙ a.at_byte in
    let joined_here = ap without_splices (at_place file at lt) ∙ without_splices-byte byte (drop (at + 1) file) begins in
    let lines_here = ap (lines_of origin.library cursor.line) (at_place file at lt) ∙ lines_of-byte origin.library cursor.line byte (drop (at + 1) file) begins in
    record {
      within = omega arith;
      before = omega (arith, r.before);
      small = λ h. omega (arith, r.small h);
      bytes = next_left byte _ (without_splices file) cursor.byte (sym joined_here ∙ r.bytes);
      lines = ap (λ k. lines_of origin.library (cursor.line + k) (drop (at + 1) file)) ended_is ∙ next_left cursor.line _ (lines_of origin.library origin.line file) cursor.byte (sym lines_here ∙ r.lines);
    }

-- the line of the byte where the cursor stands
pub line_there : (origin : Origin) (file : List ℕ) (cursor : Cursor) → IsAt origin file cursor → cursor.place < length file → cursor.line ≡ get_or (lines_of origin.library origin.line file) cursor.byte 0
line_there origin file cursor a lt =
    let at = cursor.place in
    let byte = get_or file at 0 in
    let begins = begins_splice-drop file at ∙ a.at_byte in
    let lines_here = ap (lines_of origin.library cursor.line) (at_place file at lt) ∙ lines_of-byte origin.library cursor.line byte (drop (at + 1) file) begins in
    first_left cursor.line _ (lines_of origin.library origin.line file) cursor.byte (sym lines_here ∙ a.reaches.lines)
  where
    first_left : (x : ℕ) (rest whole : List ℕ) (n : ℕ) → x ∷ rest ≡ drop n whole → x ≡ get_or whole n 0
    first_left x rest whole n e = ap (λ xs. get_or xs 0 0) e ∙ get_or-drop n whole 0 0 ∙ ap (λ k. get_or whole k 0) (omega arith)
