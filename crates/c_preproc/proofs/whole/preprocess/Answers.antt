use Rattle.std.proofs.Common.{Ok, ◌∙◌, sym, subst, IsTrue, length}
use Rattle.c_lexer.specs.List.{all_within}
use Rattle.c_preproc.specs.Code.Seen.{seen}
use Rattle.c_preproc.proofs.Ends.{from_first, result_bytes, result_ends, result_within}
use Rattle.c_preproc.proofs.whole.preprocess.Goals as goal

pub invariant_of-result : goal.invariant_of-result
invariant_of-result c =
    let t = c.args.tokens.now in
    let state = c.in-Ok-None.field-0-0 in
    let told = from_first c.in_ok-macros.macros t.bytes.items c.deref.result.now t.list.items c.deref-3.result.now (Ok (seen state)) c.in_ok-macros.ensures.bytes c.in_ok-macros.ensures.macros c.deref.ensures.value c.deref-3.ensures.value c.in-Ok-None.ensures in
    let bytes = result_bytes t.bytes.items t.list.items (seen state) told in
    record {
      within = subst (λ bs. IsTrue (all_within (length bs) state.out.items)) (sym (c.into_bytes.ensures ∙ bytes)) (result_within t.bytes.items t.list.items (seen state) t.within told);
      ends = result_ends t.bytes.items t.list.items (seen state) t.ends told;
    }

pub returns-in-Ok-None-clause-bytes : goal.returns-in-Ok-None-clause-bytes
returns-in-Ok-None-clause-bytes c =
    let t = c.args.tokens.now in
    let state = c.in-Ok-None.field-0-0 in
    let told = from_first c.in_ok-macros.macros t.bytes.items c.deref.result.now t.list.items c.deref-3.result.now (Ok (seen state)) c.in_ok-macros.ensures.bytes c.in_ok-macros.ensures.macros c.deref.ensures.value c.deref-3.ensures.value c.in-Ok-None.ensures in
    c.into_bytes.ensures ∙ result_bytes t.bytes.items t.list.items (seen state) told
