use Rattle.std.specs.Prelude.{reverse}
use Rattle.c_preproc.specs.Code.Expander.{IsRunning, macros_of, setting_of, work_of}
use Rattle.c_preproc.specs.Macros.{replacement_of}
use Rattle.c_preproc.proofs.expander.Expander.walk.Given as goal

abbrev pub invariant-loop-frame : goal.invariant-loop-frame
invariant-loop-frame l =
    let s = setting_of l.bytes l.table in
    IsRunning s l.self l.fn.self.tokens.items (replacement_of l.bytes (macros_of s) l.fn.token)

abbrev pub decreases-loop-frame : goal.decreases-loop-frame
decreases-loop-frame l = work_of (setting_of l.bytes l.table) (reverse l.self.stack.items)
