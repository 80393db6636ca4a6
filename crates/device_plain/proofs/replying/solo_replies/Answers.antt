use Rattle.std.proofs.Common.{◌≡◌, ◌+◌, ◌<◌, ℕ, List, [], ◌∷◌, ◌++◌, take, length, Some, sym, ap, ◌∙◌, subst, arith}
use Rattle.std.proofs.lemmas.{List.take_more, Option.slice_get-get_or}
use Rattle.device_plain.{specs.Alone.IsAlone, specs.Alone.solo_replies, specs.Telling.replies_to, proofs.AloneItems.alone_push, proofs.AloneItems.solo_replies_push}
use Rattle.isolation_laws.specs.{Solo.solo_view, Solo.solo_word, declared.items.Item.Item, declared.items.SoloReply.SoloReply}
use Rattle.device_plain.proofs.replying.solo_replies.Goals as goal

pub loop-i-preserved : goal.loop-i-preserved
loop-i-preserved c =
    let before : List Item = take c.loop-i.i c.args.items.now in
    let item : Item = c.index-items-i.result in
    let within : c.loop-i.i < length c.args.items.now = omega (arith, c.loop-i-test.true) in
    let front : take (c.loop-i.i + 1) c.args.items.now ≡ take c.loop-i.i c.args.items.now ++ c.index-items-i.result ∷ [] =
    take_more c.args.items.now c.loop-i.i c.index-items-i.result within ∙ ap (λ (x : Item). take c.loop-i.i c.args.items.now ++ x ∷ []) (sym c.index-items-i.is) in
    let words : ℕ → ℕ = λ d. solo_word c.args.config.now c.args.host d (take c.loop-i.i c.args.items.now) in
    record {
      alone = subst (λ (xs : List Item). IsAlone c.args.config.now c.args.host (solo_view c.args.config.now c.args.host xs) (λ d. solo_word c.args.config.now c.args.host d xs) c.take_item.new.alone) (sym front)
          (alone_push c.args.config.now c.args.host before item c.take_item.new.alone (c.in-Ok.ensures.taken (solo_view c.args.config.now c.args.host before) words c.loop-i.invariant.alone));
      replied =
          c.in-Ok.ensures.replied (solo_view c.args.config.now c.args.host before) words c.loop-i.invariant.alone
          ∙ ap (λ (told : List SoloReply). told ++ replies_to c.args.config.now c.args.host (solo_view c.args.config.now c.args.host before) words item) c.loop-i.invariant.replied
          ∙ sym (solo_replies_push c.args.config.now c.args.host before item)
          ∙ ap (solo_replies c.args.config.now c.args.host) (sym front);
    }

pub returns-in-Err-Unlawful-clause-fault : goal.returns-in-Err-Unlawful-clause-fault
returns-in-Err-Unlawful-clause-fault c =
    let taken = rw c.in-Err-Unlawful.field-0-is at c.in-Err-Unlawful.ensures.taken in
    let within : c.loop-i.i < length c.args.items.now = omega (arith, c.loop-i-test.true) in (
      c.index-items-i.result,
      slice_get-get_or c.args.items.now c.loop-i.i c.index-items-i.result within ∙ ap (λ (x : Item). Some x) (sym c.index-items-i.is),
      taken (solo_view c.args.config.now c.args.host (take c.loop-i.i c.args.items.now)) (λ d. solo_word c.args.config.now c.args.host d (take c.loop-i.i c.args.items.now)) c.loop-i.invariant.alone,
    )
