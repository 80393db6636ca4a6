-- What a device with one host alone keeps at first.
use Rattle.std.proofs.Common.{◌≡◌, [], sym, ap, ◌∙◌, arith}
use Rattle.dcd_base.specs.declared.ids.HostId.{HostId}
use Rattle.event_log.{proofs.Histories.begins, specs.LogStates.new_log}
use Rattle.granule_mem.specs.Contents.{word_among}
use Rattle.extent_list.specs.HostLists.{extent_total, no_lists}
use Rattle.region_config.specs.Configurations.{Configuration}
use Rattle.control_core.specs.{device_rules.specs.Views.first_view, device_state.proofs.Fresh.own_blocks}
use Rattle.device_plain.specs.{Alone.IsAlone, declared.alone.Alone.Alone}

pub first_alone : (c : Configuration) (a : Alone) → a.present ≡ c → a.lists ≡ no_lists → a.log ≡ new_log 64 → a.words.entries ≡ [] → (h : HostId) → IsAlone c h (first_view c) (λ d. 0) a
first_alone c a present lists log words h = record {
  present_is = present ∙ sym (own_blocks c);
  lists_are = lists;
  few = let none = ap extent_total lists in omega (arith, none);
  log_is = record { is = log ∙ sym (begins 64).0; told = (begins 64).1 };
  words_are = λ d. ap (λ es. word_among es d) words;
}
