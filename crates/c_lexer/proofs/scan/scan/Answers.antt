use Rattle.std.proofs.Common.{◌≡◌, ◌+◌, ◌<◌, ◌≤◌, ◌&&◌, ◌++◌, [], ◌∷◌, arith, true, not, nat_le, length, refl, ap, sym, ◌∙◌, subst, get_or, Err}
use Rattle.c_lexer.specs.Source.{lines_of}
use Rattle.c_lexer.specs.Tokens.{token_at}
use Rattle.c_lexer.specs.List.{is_end}
use Rattle.c_lexer.specs.declared.fault.LexFault.TheVariants as fault
use Rattle.c_lexer.specs.declared.front.Front.TheVariants as front
use Rattle.c_lexer.proofs.Cuts.{cut_into_tokens}
use Rattle.c_lexer.proofs.Scanning.{on_blank, on_token, on_fault, on_end, all_more, is_slice, ends}
use Rattle.c_lexer.proofs.scan.scan.Goals as goal

pub loop-at-preserved-in-LineEnd : goal.loop-at-preserved-in-LineEnd
loop-at-preserved-in-LineEnd c =
    let l = c.loop-at in
    let a = c.args in
    let lines = lines_of a.origin.library a.origin.line a.file.now in
    record {
      is_at = c.forward-cursor.ensures.at;
      before = omega (arith, c.forward-cursor.ensures.byte);
      within = omega arith;
      told = on_blank a.origin.library a.last lines l.at (l.at + 1) l.first true 0 a.bytes.now l.list.items _ front.LineEnd (omega arith) (omega arith) (rw c.split_at.ensures.back at c.in-LineEnd.ensures.value) (λ behind. refl) l.invariant.told;
      slices = l.invariant.slices;
      no_end = l.invariant.no_end;
    }

pub loop-at-preserved-in-Blank : goal.loop-at-preserved-in-Blank
loop-at-preserved-in-Blank c =
    let l = c.loop-at in
    let a = c.args in
    let lines = lines_of a.origin.library a.origin.line a.file.now in
    let more = c.in-Blank.more in
    let room : l.at + (1 + more) ≤ length a.bytes.now = omega (arith, c.in-Blank.ensures.within, c.split_at.ensures.back_len) in
    record {
      is_at = c.forward-cursor.ensures.at;
      before = omega (arith, c.forward-cursor.ensures.byte);
      within = room;
      told = on_blank a.origin.library a.last lines l.at (l.at + (1 + more)) l.first l.first more a.bytes.now l.list.items _ (front.Blank more) (omega arith) room (rw c.split_at.ensures.back at c.in-Blank.ensures.value) (λ behind. refl) l.invariant.told;
      slices = l.invariant.slices;
      no_end = l.invariant.no_end;
    }

pub loop-at-preserved : goal.loop-at-preserved
loop-at-preserved c =
    let l = c.loop-at in
    let a = c.args in
    let lines = lines_of a.origin.library a.origin.line a.file.now in
    let more = c.in-Token.more in
    let pushed = c.in_ok-append-in-Token.ensures.ok ∙ ap (λ token. l.list.items ++ token ∷ []) c.token_at-token.ensures in
    let line_is : c.forward-cursor.result.line ≡ get_or lines l.at 0 = c.forward-cursor.ensures.line (subst (λ xs. l.at < length xs) c.requires.bytes (omega arith)) in
    let room : l.at + (1 + more) ≤ length a.bytes.now = omega (arith, c.in-Token.ensures.within, c.split_at.ensures.back_len) in
    record {
      is_at = c.forward-cursor.ensures.at;
      before = omega (arith, c.forward-cursor.ensures.byte);
      within = room;
      told = on_token a.origin.library a.last lines l.at (l.at + (1 + more)) l.first c.in-Token.kind more a.bytes.now l.list.items _ _ (omega arith) room (rw c.split_at.ensures.back at c.in-Token.ensures.value) (pushed ∙ ap (λ line. l.list.items ++ token_at a.origin.library line l.first c.in-Token.kind l.at (l.at + 1 + more) ∷ []) line_is) l.invariant.told;
      slices = all_more (λ token. nat_le token.start token.end && nat_le token.end (length a.bytes.now)) l.list.items _ _ pushed l.invariant.slices (is_slice (length a.bytes.now) l.at (l.at + 1 + more) (omega arith) (omega arith));
      no_end = all_more (λ token. not (is_end token.kind)) l.list.items _ _ pushed l.invariant.no_end (ap not c.in-Token.ensures.no_end);
    }

pub returns-in-Bad-clause-fault : goal.returns-in-Bad-clause-fault
returns-in-Bad-clause-fault c =
    let l = c.loop-at in
    let a = c.args in
    let lines = lines_of a.origin.library a.origin.line a.file.now in
    let line_is : c.forward-cursor.result.line ≡ get_or lines l.at 0 = c.forward-cursor.ensures.line (subst (λ xs. l.at < length xs) c.requires.bytes (omega arith)) in
    λ _. on_fault a.origin.library a.last lines l.at l.first a.bytes.now l.list.items _ front.Bad (fault.Bad c.forward-cursor.result.line) (omega arith) (rw c.split_at.ensures.back at c.in-Bad.ensures.value) (λ behind. ap (λ line. Err (fault.Bad line)) (sym line_is)) l.invariant.told

pub returns-in-Unclosed-clause-fault : goal.returns-in-Unclosed-clause-fault
returns-in-Unclosed-clause-fault c =
    let l = c.loop-at in
    let a = c.args in
    let lines = lines_of a.origin.library a.origin.line a.file.now in
    let line_is : c.forward-cursor.result.line ≡ get_or lines l.at 0 = c.forward-cursor.ensures.line (subst (λ xs. l.at < length xs) c.requires.bytes (omega arith)) in
    λ _. on_fault a.origin.library a.last lines l.at l.first a.bytes.now l.list.items _ front.Unclosed (fault.Unclosed c.forward-cursor.result.line) (omega arith) (rw c.split_at.ensures.back at c.in-Unclosed.ensures.value) (λ behind. ap (λ line. Err (fault.Unclosed line)) (sym line_is)) l.invariant.told

pub returns-in-Literal-clause-fault : goal.returns-in-Literal-clause-fault
returns-in-Literal-clause-fault c =
    let l = c.loop-at in
    let a = c.args in
    let lines = lines_of a.origin.library a.origin.line a.file.now in
    let line_is : c.forward-cursor.result.line ≡ get_or lines l.at 0 = c.forward-cursor.ensures.line (subst (λ xs. l.at < length xs) c.requires.bytes (omega arith)) in
    λ _. on_fault a.origin.library a.last lines l.at l.first a.bytes.now l.list.items _ front.Literal (fault.Literal c.forward-cursor.result.line) (omega arith) (rw c.split_at.ensures.back at c.in-Literal.ensures.value) (λ behind. ap (λ line. Err (fault.Literal line)) (sym line_is)) l.invariant.told

pub returns-clause-list : goal.returns-clause-list
returns-clause-list c =
    let l = c.loop-at in
    let a = c.args in
    let lines = lines_of a.origin.library a.origin.line a.file.now in
    on_end a.origin.library a.last lines l.at l.first a.bytes.now l.list.items _ _ (omega arith) (c.in_ok-append.ensures.ok ∙ ap (λ token. l.list.items ++ token ∷ []) c.token_at-end.ensures) l.invariant.told

pub returns-clause-ends : goal.returns-clause-ends
returns-clause-ends c =
    let l = c.loop-at in
    ends l.list.items _ _ (c.in_ok-append.ensures.ok ∙ ap (λ token. l.list.items ++ token ∷ []) c.token_at-end.ensures) l.invariant.no_end refl

pub returns-clause-cut : goal.returns-clause-cut
returns-clause-cut c = cut_into_tokens c.args.origin.library c.args.last (lines_of c.args.origin.library c.args.origin.line c.args.file.now) c.args.bytes.now _ (returns-clause-list c)
