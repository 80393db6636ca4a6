use Rattle.std.proofs.Common.{◌≡◌, length, get_or, subst, sym, rules}
use Rattle.script_runner.specs.shared_device.specs.Passing.{IsOneOf, IsSamePass}
use Rattle.threads_tests.proofs.Passes.{all_each, one_at}
use Rattle.threads_tests.proofs.beside.each_part.Goals as goal

pub for_each_mut-requires-clause-accepts : goal.for_each_mut-requires-clause-accepts
for_each_mut-requires-clause-accepts g c κs within = λ i p lt e. (subst (IsOneOf c.args.shared.now) (sym e) (one_at c.args.shared.now c.args.passes.now i p.now lt c.requires.all), c.requires.hosts)

pub returns : goal.returns
returns g c =
    let len : length c.for_each_mut.new.s ≡ length c.args.passes.now = search rules in
    record {
      all = all_each c.args.shared.now c.args.passes.now c.for_each_mut.new.s len
          (λ k d lt. let h = (c.for_each_mut.ensures k d lt).1 in
          subst (λ x. IsSamePass c.args.shared.now x (get_or c.for_each_mut.new.s k d)) h.argument_is (subst (λ y. IsSamePass c.args.shared.now h.argument.now y) h.left h.call))
          c.requires.all;
    }
