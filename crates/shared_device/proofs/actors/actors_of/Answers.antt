use Rattle.std.proofs.Common.{◌≡◌, ◌*◌, [], ◌∷◌, ◌++◌, length, replicate, sym, ap, ◌∙◌, arith, rules}
use Rattle.std.proofs.lemmas.List.{length_push}
use Rattle.dcd_base.specs.declared.steps.Actor.{Actor}
use Rattle.shared_device.proofs.ActorLists.{lanes_below, lanes_more}
use Rattle.shared_device.proofs.actors.actors_of.Goals as goal

pub loop-host-preserved : goal.loop-host-preserved
loop-host-preserved c = c.in_ok-push_lanes.ensures ∙ ap (λ l. l ++ replicate c.args.lanes (Actor.Host c.loop-host.host)) c.loop-host.invariant ∙ sym (lanes_more c.args.lanes c.loop-host.host)

pub returns-clause-count : goal.returns-clause-count
returns-clause-count c =
    let all = c.loop-host.actors.items in
    let a : c.push.new.self.items ≡ all ++ Actor.Manager ∷ [] = search rules in
    let b : c.push-2.new.self.items ≡ c.push.new.self.items ++ Actor.Sanitizer ∷ [] = search rules in
    let host : c.loop-host.host ≡ c.args.config.now.hosts = search (rules, arith) in
    let la = ap length a ∙ length_push all Actor.Manager in
    let lb = ap length b ∙ length_push c.push.new.self.items Actor.Sanitizer in
    let lc = ap length c.loop-host.invariant ∙ lanes_below c.args.lanes c.loop-host.host ∙ ap (λ n. n * c.args.lanes) host in
    let ld = ap length c.from_vec.ensures in
    omega (arith, la, lb, lc, ld)
