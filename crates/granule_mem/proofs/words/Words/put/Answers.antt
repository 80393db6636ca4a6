use Rattle.std.proofs.Common.{◌≡◌, ◌∷◌, ◌++◌, [], None, rules}
use Rattle.granule_mem.{proofs.Few.puts_at, proofs.Few.puts_behind, specs.Words.IsFirst, specs.Words.found}
use Rattle.granule_mem.proofs.words.Words.put.Goals as goal

pub returns-in-Some-clause-words : goal.returns-in-Some-clause-words
returns-in-Some-clause-words c =
    let few : c.args.self.now ≡ c.in-Few.few.items = search rules in
    let first : IsFirst c.in-Few.few.items c.args.word c.in-Some.place = rw (← c.deref.ensures.value) c.in-Some.ensures in
    rw few (puts_at c.in-Few.few.items c.args.word c.args.value c.in-Some.place (0, 0) first.within first.here first.none_before)

pub returns-then-len-lt-FEW-clause-words : goal.returns-then-len-lt-FEW-clause-words
returns-then-len-lt-FEW-clause-words c =
    let few : c.args.self.now ≡ c.in-Few.few.items = search rules in
    let absent : found c.in-Few.few.items c.args.word ≡ None = search rules in
    let new : c.push.new.self.items ≡ c.in-Few.few.items ++ (c.args.word, c.args.value) ∷ [] = search rules in
    rw (few, new) (puts_behind c.in-Few.few.items c.args.word c.args.value absent)
