-- What the headline says of each ending follows from the outcome.
use Rattle.std.proofs.Common.{List, ℕ, map, sym, subst}
use Rattle.filc_top.specs.Headline.{devices, IsCause}
use Rattle.filc_top.proofs.Clauses.{says_ending}
use Rattle.filc_top.proofs.call.filc.Goals as goal

pub returns-clause-endings : goal.returns-clause-endings
returns-clause-endings g c =
    says_ending (map (λ word. word.now) c.args.words.now) (devices (g.F.Files.state c.args.files.now) (g.O.Sink.state c.args.out.now) (g.E.Sink.state c.args.err.now)) (devices (g.F.Files.state c.cause_of-cause.new.files) (g.O.Sink.state c.write_outcome.new.out) (g.E.Sink.state c.write_outcome.new.err)) c.write_outcome.result
    (record {
      cause = c.cause_of-cause.result;
      output = c.deref.result.now;
      caused = subst (λ (output : List ℕ). IsCause (map (λ word. word.now) c.args.words.now) (g.F.Files.state c.args.files.now) (g.F.Files.state c.cause_of-cause.new.files) c.cause_of-cause.result output) (sym c.deref.ensures.value) c.cause_of-cause.ensures.caused;
      written = c.write_outcome.ensures;
    })
