-- The holders that the changes of a step leave are those that its effects leave.
use Rattle.std.proofs.Common.{◌≡◌, ◌≢◌, ◌⊎◌, ℕ, ◌+◌, ◌-◌, ◌*◌, ◌%◌, ◌^◌, Bool, true, false, ◌==◌, List, [], ◌∷◌, get_or, max, bit_and, bit_or, Option, Some, None, refl, sym, ap, subst, ◌∙◌, inl, inr, arith}
use Rattle.std.proofs.Math.Nat.{div-eq_of_lt}
use Rattle.std.proofs.lemmas.Bool.{and_parts, cases_Bool, cases_eq, cases_lt, eqb-true, false≢true, ne_eqb}
use Rattle.std.{proofs.lemmas.Nat.Bits.and_pow, proofs.lemmas.Nat.Bits.bit_at-lt, proofs.lemmas.Nat.Bits.bit_at-pow_other, proofs.lemmas.Nat.Bits.bit_at_or, specs.Int.bit_at}
use Rattle.std.specs.{Int.Bits.or_add_and, List.list_all, Prelude.All, Prelude.fold, Prelude.if◌then◌else◌}
use Rattle.cci_codec.specs.dcd_base.specs.{Words.has_granule, declared.ids.HostId.HostId, declared.media.Change.Change, Hosts.has_host, Hosts.with_host, Hosts.without_host}
use Rattle.journal_core.{proofs.HoldingSteps.holds-append, specs.Entries.effects, specs.Holders.holding_after, specs.Holders.holds, specs.declared.entries.Entry.Entry}
use Rattle.journal_core.specs.declared.outcome.Effect.{Effect}
use Rattle.extent_list.specs.media_map.specs.region_config.specs.{Configurations.Configuration, Granules.granule_total}
use Rattle.device_commands.specs.device_rules.{proofs.HostBits.with_has, proofs.HostBits.without_has, specs.ChangedRuns.AreChanges, specs.ChangedRuns.IsSoundChange}
use Rattle.manager_commands.specs.device_state.specs.{StateAfter.IsStateAfter, declared.state.State.State}
use Rattle.control_core.specs.PutChanges.{AreOfOneHost, ArePut, NameNoOthers, bits_after, is_of_host}

-- ---- bits of the other hosts

-- a bit that was not set is set, and each other one is as it was
added_other : (bits k h : ℕ) → bit_at bits k ≡ 0 → h ≢ k → bit_at (bits + 2 ^ k) h ≡ bit_at bits h
added_other bits k h none other =
    let zero : 0 * 2 ^ k ≡ 0 = omega arith in
    let apart : bit_and bits (2 ^ k) ≡ 0 = and_pow bits k ∙ ap (λ b. b * 2 ^ k) none ∙ zero in
    let sum : bits + 2 ^ k ≡ bit_or bits (2 ^ k) = omega (arith, or_add_and bits (2 ^ k), apart) in
    let pow : bit_at (2 ^ k) h ≡ 0 = bit_at-pow_other k h other in
    let or : bit_at (bit_or bits (2 ^ k)) h ≡ max (bit_at bits h) (bit_at (2 ^ k) h) = bit_at_or bits (2 ^ k) h in
    ap (λ n. bit_at n h) sum ∙ omega (arith, or, pow)

cases_bit : (bits k : ℕ) → (bit_at bits k ≡ 1) ⊎ (bit_at bits k ≡ 0)
cases_bit bits k = elim (cases_eq (bit_at bits k) 1) [
  | inl one ↦ inl one
  | inr other ↦ inr (omega (arith, other, bit_at-lt bits k))
]

pub with_other : (bits k h : ℕ) → h ≢ k → has_host (with_host bits k) h ≡ has_host bits h
with_other bits k h other = elim (cases_bit bits k) [
  | inl one ↦ ap (λ d. has_host (if d == 1 then bits else bits + 2 ^ k) h) one
  | inr none ↦ ap (λ d. has_host (if d == 1 then bits else bits + 2 ^ k) h) none ∙ ap (λ d. d == 1) (added_other bits k h none other)
]

pub without_other : (bits k h : ℕ) → h ≢ k → has_host (without_host bits k) h ≡ has_host bits h
without_other bits k h other = elim (cases_bit bits k) [
  | inl one ↦ (let less : without_host bits k ≡ bits - 2 ^ k = ap (λ d. if d == 1 then bits - 2 ^ k else bits) one in
      let lost : bit_at (bits - 2 ^ k) k ≡ 0 = lost_bit (rw less at (without_has bits k)) in
      ap (λ b. has_host b h) less ∙ sym (ap (λ d. d == 1) (ap (λ n. bit_at n h) (sym (whole one)) ∙ added_other (bits - 2 ^ k) k h lost other)))
  | inr none ↦ ap (λ d. has_host (if d == 1 then bits - 2 ^ k else bits) h) none
]
  where
    lost_bit : has_host (bits - 2 ^ k) k ≡ false → bit_at (bits - 2 ^ k) k ≡ 0
    lost_bit off = elim (cases_bit (bits - 2 ^ k) k) [
      | inl one ↦ absurd (false≢true (sym off ∙ ap (λ d. d == 1) one))
      | inr none ↦ none
    ]

    whole : bit_at bits k ≡ 1 → bits - 2 ^ k + 2 ^ k ≡ bits
    whole one = elim (cases_lt bits (2 ^ k)) [
      | inl below ↦ (let none : bit_at bits k ≡ 0 = ap (λ q. q % 2) (div-eq_of_lt below) in absurd (omega (arith, one, none)))
      | inr enough ↦ omega (arith, enough)
    ]

-- ---- one effect

-- of the host that the effects name
own_one : (holders : List ℕ) (g : ℕ) (h : HostId) (bits : ℕ) (held : Bool) (e : Effect) → is_of_host (Some h) e ≡ true → has_host bits h ≡ held →
    has_host (bits_after holders g bits e) h ≡ holding_after h g held e
own_one holders g h bits held (Effect.Take k run) of is = elim (cases_Bool (has_granule run g)) [
  | inl has ↦ rw (has, of) (subst (λ x. has_host (with_host (get_or holders g 0) x) h ≡ true) (sym (eqb-true k h of)) (with_has (get_or holders g 0) h))
  | inr out ↦ rw (out, of) is
]
own_one holders g h bits held (Effect.Leave k run) of is = elim (cases_Bool (has_granule run g)) [
  | inl has ↦ rw (has, of) (subst (λ x. has_host (without_host (get_or holders g 0) x) h ≡ false) (sym (eqb-true k h of)) (without_has (get_or holders g 0) h))
  | inr out ↦ rw (out, of) is
]
own_one holders g h bits held (Effect.Zero run) of is = absurd (false≢true of)
own_one holders g h bits held (Effect.Offer k xs) of is = is
own_one holders g h bits held (Effect.Answer k xs) of is = is
own_one holders g h bits held (Effect.Soil run) of is = is
own_one holders g h bits held (Effect.Hold k kind xs) of is = is
own_one holders g h bits held (Effect.Unhold k kind) of is = is
own_one holders g h bits held (Effect.Logged l event) of is = is
own_one holders g h bits held (Effect.Missed l) of is = is
own_one holders g h bits held (Effect.Cleared l n) of is = is
own_one holders g h bits held (Effect.Reset l) of is = is
own_one holders g h bits held (Effect.Ref t on) of is = is
own_one holders g h bits held (Effect.TagEnd t) of is = is
own_one holders g h bits held (Effect.Block r size) of is = is

own_all : (holders : List ℕ) (g : ℕ) (h : HostId) (bits : ℕ) (held : Bool) (new : List Effect) → list_all (is_of_host (Some h)) new ≡ true → has_host bits h ≡ held →
    has_host (fold (bits_after holders g) bits new) h ≡ fold (holding_after h g) held new
own_all holders g h bits held [] all is = is
own_all holders g h bits held (e ∷ new) all is =
    let parts = and_parts (is_of_host (Some h) e) (list_all (is_of_host (Some h)) new) all in
    own_all holders g h (bits_after holders g bits e) (holding_after h g held e) new parts.1 (own_one holders g h bits held e parts.0 is)

-- of another host, which holds what it held
pub record Stays (holders : List ℕ) (g : ℕ) (h : HostId) (bits : ℕ) (held : Bool) (e : Effect) : Type 0 where
  pub bits_stay : has_host (bits_after holders g bits e) h ≡ held
  pub holding_stays : holding_after h g held e ≡ held

abbrev IsOther : Option HostId → HostId → Type 0
IsOther None h = Unit {0}
IsOther (Some k) h = h ≢ k

other_one : (host : Option HostId) (holders : List ℕ) (g : ℕ) (h : HostId) (bits : ℕ) (held : Bool) (e : Effect) → IsOther host h → is_of_host host e ≡ true →
    has_host (get_or holders g 0) h ≡ held → has_host bits h ≡ held → Stays holders g h bits held e
other_one None holders g h bits held (Effect.Take k run) other of table is = absurd (false≢true of)
other_one None holders g h bits held (Effect.Leave k run) other of table is = absurd (false≢true of)
other_one None holders g h bits held (Effect.Zero run) other of table is = record {
  bits_stay = elim (cases_Bool (has_granule run g)) [
    | inl has ↦ rw has table
    | inr out ↦ rw out is
  ];
  holding_stays = refl;
}
other_one (Some m) holders g h bits held (Effect.Take k run) other of table is =
    let apart : h ≢ k = λ same. other (same ∙ eqb-true k m of) in record {
      bits_stay = elim (cases_Bool (has_granule run g)) [
        | inl has ↦ rw has (with_other (get_or holders g 0) k h apart ∙ table)
        | inr out ↦ rw out is
      ];
      holding_stays = rw (ne_eqb k h (λ same. apart (sym same))) refl;
    }
other_one (Some m) holders g h bits held (Effect.Leave k run) other of table is =
    let apart : h ≢ k = λ same. other (same ∙ eqb-true k m of) in record {
      bits_stay = elim (cases_Bool (has_granule run g)) [
        | inl has ↦ rw has (without_other (get_or holders g 0) k h apart ∙ table)
        | inr out ↦ rw out is
      ];
      holding_stays = rw (ne_eqb k h (λ same. apart (sym same))) refl;
    }
other_one (Some m) holders g h bits held (Effect.Zero run) other of table is = absurd (false≢true of)
other_one host holders g h bits held (Effect.Offer k xs) other of table is = record { bits_stay = is; holding_stays = refl }
other_one host holders g h bits held (Effect.Answer k xs) other of table is = record { bits_stay = is; holding_stays = refl }
other_one host holders g h bits held (Effect.Soil run) other of table is = record { bits_stay = is; holding_stays = refl }
other_one host holders g h bits held (Effect.Hold k kind xs) other of table is = record { bits_stay = is; holding_stays = refl }
other_one host holders g h bits held (Effect.Unhold k kind) other of table is = record { bits_stay = is; holding_stays = refl }
other_one host holders g h bits held (Effect.Logged l event) other of table is = record { bits_stay = is; holding_stays = refl }
other_one host holders g h bits held (Effect.Missed l) other of table is = record { bits_stay = is; holding_stays = refl }
other_one host holders g h bits held (Effect.Cleared l n) other of table is = record { bits_stay = is; holding_stays = refl }
other_one host holders g h bits held (Effect.Reset l) other of table is = record { bits_stay = is; holding_stays = refl }
other_one host holders g h bits held (Effect.Ref t on) other of table is = record { bits_stay = is; holding_stays = refl }
other_one host holders g h bits held (Effect.TagEnd t) other of table is = record { bits_stay = is; holding_stays = refl }
other_one host holders g h bits held (Effect.Block r size) other of table is = record { bits_stay = is; holding_stays = refl }

other_all : (host : Option HostId) (holders : List ℕ) (g : ℕ) (h : HostId) (bits : ℕ) (held : Bool) (new : List Effect) → IsOther host h → list_all (is_of_host host) new ≡ true →
    has_host (get_or holders g 0) h ≡ held → has_host bits h ≡ held → has_host (fold (bits_after holders g) bits new) h ≡ fold (holding_after h g) held new
other_all host holders g h bits held [] other all table is = is
other_all host holders g h bits held (e ∷ new) other all table is =
    let parts = and_parts (is_of_host host e) (list_all (is_of_host host) new) all in
    let one = other_one host holders g h bits held e other parts.0 table is in
    other_all host holders g h (bits_after holders g bits e) held new other parts.1 table one.bits_stay
    ∙ ap (λ now. fold (holding_after h g) now new) (sym one.holding_stays)

-- ---- all effects

each_host : (host : Option HostId) (holders : List ℕ) (g : ℕ) (h : HostId) (bits : ℕ) (held : Bool) (new : List Effect) → list_all (is_of_host host) new ≡ true →
    has_host (get_or holders g 0) h ≡ held → has_host bits h ≡ held → has_host (fold (bits_after holders g) bits new) h ≡ fold (holding_after h g) held new
each_host None holders g h bits held new all table is = other_all None holders g h bits held new tt all table is
each_host (Some m) holders g h bits held new all table is = elim (cases_eq h m) [
  | inl same ↦ own_all holders g h bits held new (subst (λ x. list_all (is_of_host (Some x)) new ≡ true) (sym same) all) is
  | inr other ↦ other_all (Some m) holders g h bits held new other all table is
]

pub are_changes : (c : Configuration) (before : List Entry) (s : State) (new : List Effect) (changes : List Change) → ArePut (granule_total c) s.holders new changes →
    (NameNoOthers c s.holders → All (IsSoundChange c) changes) → AreOfOneHost new → IsStateAfter c before s → AreChanges c (effects before) new changes
are_changes c before s new changes put sound one kept = record {
  holders = λ g below bits are h host.
      ap (λ b. has_host b h) (put.bits g below bits)
      ∙ each_host one.host s.holders g h bits (holds h g (effects before)) new one.each (kept.held g h below host) (are h host)
      ∙ sym (holds-append h g (effects before) new);
  zeroed = put.zeroed;
  touched = put.named;
  sound = sound kept.no_others;
}
