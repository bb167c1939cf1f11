-- Each kind of word is what the list has of it.
use Rattle.c_declarations.proofs.Specifying.{are_words}
use Rattle.c_declarations.proofs.specifier_list.words_in.Goals as goal

pub returns : goal.returns
returns c =
    are_words c.args.standing c.args.specifiers.now (record { storage = c.in_ok-storage.storage; named = c.in_ok-named.named; set = c.in_ok-set.set }) c.in_ok-storage.ensures c.in_ok-named.ensures c.in_ok-set.ensures
