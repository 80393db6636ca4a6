-- One more line of a run.
use Rattle.std.proofs.Common.{◌≡◌, ℕ, zero, suc, ◌+◌, ◌<◌, ◌≤◌, Bool, true, false, cond, List, [], inl, inr, get_or, ◌∷◌, ◌++◌, length, refl, sym, ap, ◌∙◌, subst, arith, append-nil}
use Rattle.std.specs.Prelude.{IfOk, Ok, Err, map, flat_map, take, Option, Some, None, slice_get, if◌then◌else◌, ◌==◌, ◌&&◌}
use Rattle.std.proofs.{Math.Seq.take-suc, lemmas.Bool.eqb-false, lemmas.Bool.false≢true, lemmas.Grind.flat_map-append, lemmas.List.length-map, lemmas.List.length-take-le, lemmas.List.map-append}
use Rattle.std.proofs.lemmas.List.Elements.{All-cons, All-nil, Contains-append_left, Contains-push}
use Rattle.std.proofs.lemmas.Option.{slice_get-get_or, slice_get_cases, slice_get_past, slice_get_within, slice_get-map, none-some, same_Some}
use Rattle.std.specs.{List.All, List.AllByRecursion, List.Contains, List.enumerate_from, List.list_all, Option.option_map, declared.result.Result.Result}
use borrow.Author.Tests.{eqb-true}
use Rattle.dcd_base.specs.declared.{failures.NoMemory.NoMemory, steps.Actor.Actor}
use Rattle.cci_codec.specs.declared.messages.{Request.Request, Response.Response}
use Rattle.journal_core.specs.declared.{acts.Act.Act, acts.Reply.Reply, entries.Entry.Entry}
use Rattle.region_config.specs.Configurations.{Configuration}
use Rattle.device_plain.specs.Devices.{Enters, Plain}
use Rattle.report.specs.script_codec.specs.Covering.{pass_of}
use Rattle.tunnel_fabric.{proofs.Wrapping.wrapped_short, specs.FabricLayout.fits_there}
use Rattle.tunnel_fabric.specs.{Tunnels.inner_of, Tunnels.tunnel_refused, Tunnels.target_of, Tunnels.tunnel_rule, Tunnels.tunnel_wrapped, declared.fabric_lines.FabricLine.FabricLine}
use Rattle.tunnel_fabric.specs.declared.{fabric_scripts.FabricScript.FabricScript, replies.Replied.Replied, rules.TunnelRule.TunnelRule}
use Rattle.tunnel_fabric.specs.Sending.{AreReplies, CanRun, IsShortReply, DidAllSent, HasOnePass, IsReply, IsFabricRun, IsReplyBy, Sent, fits_fabric_line, journal_in, sent, sent_by, sent_through, sent_of, tunnel_of}
use Rattle.tunnel_fabric.specs.Stepping.{DidFront, DoesAll, IsSoundDevice, LineDone, RanFront, Reached, StepsOne, fits_device, fresh_devices, front_of, line_fits}

both_first : (a b : Bool) → (a && b) ≡ true → a ≡ true
both_first true b all = refl
both_first false b all = all

both_second : (a b : Bool) → (a && b) ≡ true → b ≡ true
both_second true b all = all
both_second false b all = absurd (false≢true all)

-- ---- what a step of one device is to each

abbrev or_else : Plain → Option Plain → Plain
or_else d None = d
or_else d (Some e) = e

some_is : (d e : Plain) → Some d ≡ Some e → d ≡ e
some_is d e is = ap (or_else d) is

abbrev line_or : FabricLine → Option FabricLine → FabricLine
line_or d None = d
line_or d (Some e) = e

some_line : (d e : FabricLine) → Some d ≡ Some e → d ≡ e
some_line d e is = ap (line_or d) is

abbrev item : ℕ → Actor → Act → Sent
item n actor act = record { line = n; actor = actor; act = act }

pub does_nothing : (was now : Plain) → now ≡ was → DoesAll was now []
does_nothing was now same = record {
  entries = [];
  journal = ap (λ (d : Plain). d.journal) same ∙ sym (append-nil was.journal);
  config = ap (λ (d : Plain). d.config) same;
  are = refl;
  passes = tt;
}

pub does_one : (was now : Plain) (n : ℕ) (actor : Actor) (act : Act) (reply : Reply) → Enters was now (pass_of was.config.hosts 1 actor 0) n actor act reply → DoesAll was now (item n actor act ∷ [])
does_one was now n actor act reply enters = record {
  entries = enters.entry ∷ [];
  journal = enters.journal;
  config = enters.config;
  are = ap (λ m. item m enters.entry.actor enters.entry.act ∷ []) enters.line ∙ ap (λ a. item n a enters.entry.act ∷ []) enters.actor ∙ ap (λ a. item n actor a ∷ []) enters.act;
  passes = (enters.pass ∙ sym (ap (λ a. pass_of was.config.hosts 1 a 0) enters.actor), tt);
}

-- the device of the number did it, and the others did nothing
pub each_does : (old new : List Plain) (number n : ℕ) (actor : Actor) (act : Act) (reply : Reply) → StepsOne old new number n actor act reply →
    (k : ℕ) (was now : Plain) → slice_get old k ≡ Some was → slice_get new k ≡ Some now → DoesAll was now (if number == k then item n actor act ∷ [] else [])
each_does old new number n actor act reply steps k was now old_is new_is = by (number == k) refl
  where
    by : (test : Bool) → (number == k) ≡ test → DoesAll was now (cond test (item n actor act ∷ []) [])
    by true e =
        let at : number ≡ k = eqb-true number k e in
        let was_is : steps.was ≡ was = some_is steps.was was (sym steps.was_there ∙ ap (slice_get old) at ∙ old_is) in
        let now_is : steps.now ≡ now = some_is steps.now now (sym steps.is_there ∙ ap (slice_get new) at ∙ new_is) in
        subst (λ d. DoesAll was d (item n actor act ∷ [])) now_is
        (subst (λ d. DoesAll d steps.now (item n actor act ∷ [])) was_is (does_one steps.was steps.now n actor act reply steps.enters))
    by false e =
        does_nothing was now (some_is now was (sym new_is ∙ steps.others k (λ same. eqb-false number k e (sym same)) ∙ old_is))

-- ---- replies stay when journals grow

-- each device has what it had, and more
pub record Grows (old new : List Plain) : Type 0 where
  pub count : length new ≡ length old
  pub each : (k : ℕ) (x : Entry) → Contains (journal_in (slice_get old k)) x → Contains (journal_in (slice_get new k)) x

reply_kept : (old new : List Plain) → Grows old new → (n : ℕ) (outer : Request) (r : Replied) → IsReply old n outer r → IsReply new n outer r
reply_kept old new grows n outer r is = record {
  line = is.line;
  response = subst (λ m. IsReplyBy (tunnel_rule m outer) new n outer r.response) (sym grows.count) (by (tunnel_rule (length old) outer) is.response);
}
  where
    by : (rule : Option TunnelRule) → IsReplyBy rule old n outer r.response → IsReplyBy rule new n outer r.response
    by (Some rule) same = same
    by None wraps = record { entry = wraps.entry; entered = grows.each (target_of outer) wraps.entry wraps.entered; line = wraps.line; inner = wraps.inner; reply = wraps.reply; is = wraps.is }

replies_kept : (old new : List Plain) → Grows old new → (lines : List (ℕ × Request)) (replies : List Replied) → AreReplies old lines replies → AreReplies new lines replies
replies_kept old new grows [] [] are = are
replies_kept old new grows [] (r ∷ replies) are = are
replies_kept old new grows (line ∷ lines) [] are = are
replies_kept old new grows (line ∷ lines) (r ∷ replies) are = (reply_kept old new grows line.0 line.1 r are.0, replies_kept old new grows lines replies are.1)

replies_more : (devices : List Plain) (lines more : List (ℕ × Request)) (replies added : List Replied) → AreReplies devices lines replies → AreReplies devices more added → AreReplies devices (lines ++ more) (replies ++ added)
replies_more devices [] more [] added are new = new
replies_more devices [] more (r ∷ replies) added are new = absurd are
replies_more devices (line ∷ lines) more [] added are new = absurd are
replies_more devices (line ∷ lines) more (r ∷ replies) added are new = (are.0, replies_more devices lines more replies added are.1 new)

-- ---- one more line

pub numbered_more : {X : Type 0} (n : ℕ) (xs : List X) (x : X) → enumerate_from n (xs ++ x ∷ []) ≡ enumerate_from n xs ++ (n + length xs, x) ∷ []
numbered_more n [] x = ap (λ m. (m, x) ∷ []) (omega arith)
numbered_more n (y ∷ ys) x =
    let same : (n + 1) + length ys ≡ n + suc (length ys) = omega arith in
    ap (λ rest. (n, y) ∷ rest) (numbered_more (n + 1) ys x) ∙ ap (λ m. (n, y) ∷ (enumerate_from (n + 1) ys ++ (m, x) ∷ [])) same

passes_more : (hosts : ℕ) (entries more : List Entry) → AllByRecursion (HasOnePass hosts) entries → AllByRecursion (HasOnePass hosts) more → AllByRecursion (HasOnePass hosts) (entries ++ more)
passes_more hosts [] more all new = new
passes_more hosts (e ∷ entries) more all new = (all.0, passes_more hosts entries more all.1 new)

pub flat_one : {X Y : Type 0} (g : X → List Y) (xs : List X) (x : X) → flat_map g (xs ++ x ∷ []) ≡ flat_map g xs ++ g x
flat_one g xs x = flat_map-append g xs (x ∷ []) ∙ ap (λ ys. flat_map g xs ++ ys) (append-nil (g x))

did_more : (f : FabricScript) (done number : ℕ) (line : FabricLine) (was now : Plain) → front_of f (suc done) ≡ front_of f done ++ (1 + done, line) ∷ [] →
    DidFront f done number was → DoesAll was now (sent_by (length f.configs) number (1 + done, line)) → DidFront f (suc done) number now
did_more f done number line was now longer did does = record {
  config = did.config ∙ ap Some (sym does.config);
  entries =
      ap (map sent_of) does.journal
      ∙ map-append sent_of was.journal does.entries
      ∙ ap (λ xs. xs ++ map sent_of does.entries) did.entries
      ∙ ap (λ xs. flat_map (sent_by (length f.configs) number) (front_of f done) ++ xs) does.are
      ∙ sym (ap (flat_map (sent_by (length f.configs) number)) longer ∙ flat_one (sent_by (length f.configs) number) (front_of f done) (1 + done, line));
  passes =
      subst (λ c. AllByRecursion (HasOnePass c.hosts) now.journal) (sym does.config)
      (subst (λ journal. AllByRecursion (HasOnePass was.config.hosts) journal) (sym does.journal) (passes_more was.config.hosts was.journal does.entries did.passes does.passes));
}

-- each journal of a device that did more has what it had
grows_by : (old new : List Plain) (items : ℕ → List Sent) → length new ≡ length old →
    ((k : ℕ) (was now : Plain) → slice_get old k ≡ Some was → slice_get new k ≡ Some now → DoesAll was now (items k)) → Grows old new
grows_by old new items count each = record { count = count; each = more }
  where
    more : (k : ℕ) (x : Entry) → Contains (journal_in (slice_get old k)) x → Contains (journal_in (slice_get new k)) x
    more k x among = elim (slice_get_cases old k).1 [
      | inl found ↦
          let now_is : slice_get new k ≡ Some (get_or new k found.0) = slice_get-get_or new k found.0 (omega (arith, count, found.1)) in
          let does = each k found.0 (get_or new k found.0) found.2 now_is in
          subst (λ o. Contains (journal_in o) x) (sym now_is)
          (subst (λ journal. Contains journal x) (sym does.journal)
          (Contains-append_left found.0.journal does.entries x (subst (λ o. Contains (journal_in o) x) found.2 among)))
      | inr past ↦
          subst (λ o. Contains (journal_in o) x) (past.1 ∙ sym (slice_get_past new k (omega (arith, count, past.0)))) among
    ]

short_more : (before added : List Replied) → AllByRecursion IsShortReply before → AllByRecursion IsShortReply added → AllByRecursion IsShortReply (before ++ added)
short_more [] added all new = new
short_more (r ∷ before) added all new = (all.0, short_more before added all.1 new)

-- one more line was done
pub front_more : (f : FabricScript) (done : ℕ) (line : FabricLine) (old new : List Plain) (before after : List Replied) →
    slice_get f.lines done ≡ Some line → RanFront f done old before → LineDone (1 + done) line old new before after → RanFront f (suc done) new after
front_more f done line old new before after at front step = record {
  count = step.count ∙ front.count;
  each = each;
  replied =
      subst (λ rs. AreReplies new (flat_map tunnel_of (front_of f (suc done))) rs) (sym step.replies)
      (subst (λ ls. AreReplies new ls (before ++ step.added)) (sym (ap (flat_map tunnel_of) longer ∙ flat_one tunnel_of (front_of f done) (1 + done, line)))
      (replies_more new (flat_map tunnel_of (front_of f done)) (tunnel_of (1 + done, line)) before step.added
      (replies_kept old new (grows_by old new (λ k. sent_by (length old) k (1 + done, line)) step.count step.each) (flat_map tunnel_of (front_of f done)) before front.replied) step.are));
  short = subst (λ rs. AllByRecursion IsShortReply rs) (sym step.replies) (short_more before step.added front.short step.short);
}
  where
    within : done < length f.lines
    within = slice_get_within f.lines done line at

    longer : front_of f (suc done) ≡ front_of f done ++ (1 + done, line) ∷ []
    longer =
        let its : get_or f.lines done line ≡ line = some_line (get_or f.lines done line) line (sym (slice_get-get_or f.lines done line within) ∙ at) in
        ap (enumerate_from 1) (take-suc f.lines done line within ∙ ap (λ x. take done f.lines ++ x ∷ []) its)
        ∙ numbered_more 1 (take done f.lines) line
        ∙ ap (λ n. front_of f done ++ (1 + n, line) ∷ []) (length-take-le done f.lines (omega (arith, within)))

    each : (number : ℕ) (now : Plain) → slice_get new number ≡ Some now → DidFront f (suc done) number now
    each number now is =
        let was : Plain = get_or old number now in
        let was_is : slice_get old number ≡ Some was = slice_get-get_or old number now (omega (arith, step.count, slice_get_within new number now is)) in
        did_more f done number line was now longer (front.each number was was_is)
        (subst (λ n. DoesAll was now (sent_by n number (1 + done, line))) front.count (step.each number was now was_is is))

-- a message that reached its device is a line done, and so is one that was refused
pub line_reached : (number : ℕ) (outer : Request) (old new : List Plain) (before : List Replied) (response : Response) → Reached number outer old new response →
    LineDone number (FabricLine.Tunnel outer) old new before (before ++ record { line = number; response = response } ∷ [])
line_reached number outer old new before response r = record {
  count = r.steps.count;
  each = λ k was now old_is new_is.
      subst (λ rule. DoesAll was now (sent_through rule k number outer)) (sym r.sound)
      (each_does old new (target_of outer) number Actor.Manager (Act.Command (inner_of outer)) (Reply.Answer r.inner) r.steps k was now old_is new_is);
  added = record { line = number; response = response } ∷ [];
  replies = refl;
  are = (
    record {
      line = refl;
      response =
          subst (λ rule. IsReplyBy rule new number outer response) (sym (ap (λ n. tunnel_rule n outer) r.steps.count ∙ r.sound))
          (record {
            entry = r.steps.enters.entry;
            entered =
                subst (λ o. Contains (journal_in o) r.steps.enters.entry) (sym r.steps.is_there)
                (subst (λ journal. Contains journal r.steps.enters.entry) (sym r.steps.enters.journal) (Contains-push r.steps.was.journal r.steps.enters.entry));
            line = r.steps.enters.line;
            inner = r.inner;
            reply = r.steps.enters.reply;
            is = r.is;
          });
    },
    tt,
  );
  short = (r.short, tt);
}

pub line_refused : (number : ℕ) (outer : Request) (devices : List Plain) (before : List Replied) (rule : TunnelRule) → tunnel_rule (length devices) outer ≡ Some rule →
    LineDone number (FabricLine.Tunnel outer) devices devices before (before ++ record { line = number; response = tunnel_refused outer rule } ∷ [])
line_refused number outer devices before rule broken = record {
  count = refl;
  each = λ k was now old_is new_is.
      subst (λ r. DoesAll was now (sent_through r k number outer)) (sym broken) (does_nothing was now (some_is now was (sym new_is ∙ old_is)));
  added = record { line = number; response = tunnel_refused outer rule } ∷ [];
  replies = refl;
  are = (record { line = refl; response = subst (λ r. IsReplyBy r devices number outer (tunnel_refused outer rule)) (sym broken) refl }, tt);
  short = (omega arith, tt);
}

-- an act was done on one device
pub line_local : (number device : ℕ) (actor : Actor) (act : Act) (reply : Reply) (old new : List Plain) (before : List Replied) → StepsOne old new device number actor act reply →
    LineDone number (FabricLine.Local device actor act) old new before before
line_local number device actor act reply old new before steps = record {
  count = steps.count;
  each = each_does old new device number actor act reply steps;
  added = [];
  replies = sym (append-nil before);
  are = tt;
  short = tt;
}

-- nothing was done yet
abbrev fresh_one : Configuration → Plain
fresh_one c = record { config = c; journal = [] }

pub front_fresh : (f : FabricScript) → RanFront f 0 (fresh_devices f.configs) []
front_fresh f = record { count = length-map f.configs fresh_one; each = each; replied = tt; short = tt }
  where
    each : (number : ℕ) (device : Plain) → slice_get (fresh_devices f.configs) number ≡ Some device → DidFront f 0 number device
    each number device is = elim (slice_get_cases f.configs number).1 [
      | inl found ↦
          let at : slice_get (fresh_devices f.configs) number ≡ Some (fresh_one found.0) = slice_get-map fresh_one f.configs number ∙ ap (option_map fresh_one) found.2 in
          subst (λ d. DidFront f 0 number d) (some_is (fresh_one found.0) device (sym at ∙ is)) (record { config = found.2; entries = refl; passes = tt })
      | inr past ↦ absurd (omega (arith, past.0, length-map f.configs fresh_one, slice_get_within (fresh_devices f.configs) number device is))
    ]

-- the next line fits on the devices as they are
list_all_at : {X : Type 0} (p : X → Bool) (xs : List X) (i : ℕ) (x : X) → slice_get xs i ≡ Some x → list_all p xs ≡ true → p x ≡ true
list_all_at p [] i x at all = absurd (none-some x at)
list_all_at p (y ∷ ys) zero x at all = ap p (sym (same_Some y x at)) ∙ both_first (p y) (list_all p ys) all
list_all_at p (y ∷ ys) (suc i) x at all = list_all_at p ys i x at (both_second (p y) (list_all p ys) all)

pub fits_now : (f : FabricScript) (done : ℕ) (line : FabricLine) (devices : List Plain) (replies : List Replied) → CanRun f → slice_get f.lines done ≡ Some line → RanFront f done devices replies → line_fits devices line ≡ true
fits_now f done (FabricLine.Tunnel q) devices replies can at front = refl
fits_now f done (FabricLine.Local device actor act) devices replies can at front =
    by (list_all_at (fits_fabric_line f.configs) f.lines done (FabricLine.Local device actor act) at can.fits)
  where
    by : fits_there (slice_get f.configs device) actor act ≡ true → fits_device (slice_get devices device) actor act ≡ true
    by fits = elim (slice_get_cases devices device).1 [
      | inl found ↦
          let did = front.each device found.0 found.2 in
          subst (λ o. fits_device o actor act ≡ true) (sym found.2) (subst (λ o. fits_there o actor act ≡ true) did.config fits)
      | inr past ↦
          absurd (false≢true (subst (λ o. fits_there o actor act ≡ true) (slice_get_past f.configs device (omega (arith, past.0, front.count))) fits))
    ]

-- the same, as a loop counts
pub front_next : (f : FabricScript) (done : ℕ) (line : FabricLine) (old new : List Plain) (before after : List Replied) →
    slice_get f.lines done ≡ Some line → RanFront f done old before → LineDone (done + 1) line old new before after → RanFront f (done + 1) new after
front_next f done line old new before after at front step =
    let one : done + 1 ≡ 1 + done = omega arith in
    let next : suc done ≡ done + 1 = omega arith in
    subst (λ n. RanFront f n new after) next (front_more f done line old new before after at front (subst (λ n. LineDone n line old new before after) one step))

pub all_taken : {X : Type 0} (xs : List X) → take (length xs) xs ≡ xs
all_taken [] = refl
all_taken (x ∷ xs) = ap (λ rest. x ∷ rest) (all_taken xs)

sent_is : (f : FabricScript) (number : ℕ) → flat_map (sent_by (length f.configs) number) (enumerate_from 1 f.lines) ≡ sent f number
unfolding sent
sent_is f number = refl

-- all lines were done
pub run_is : (f : FabricScript) (devices : List Plain) (replies : List Replied) → RanFront f (length f.lines) devices replies → AllByRecursion IsSoundDevice devices → IsFabricRun f (record { devices = devices; replies = replies })
run_is f devices replies front sound = record { count = front.count; devices = each; replies = subst (λ ls. AreReplies devices (flat_map tunnel_of ls) replies) whole front.replied }
  where
    whole : front_of f (length f.lines) ≡ enumerate_from 1 f.lines
    whole = ap (enumerate_from 1) (all_taken f.lines)

    sound_at : (ds : List Plain) (k : ℕ) (d : Plain) → AllByRecursion IsSoundDevice ds → slice_get ds k ≡ Some d → IsSoundDevice d
    sound_at [] k d all is = absurd (none-some d is)
    sound_at (e ∷ ds) zero d all is = subst (λ x. IsSoundDevice x) (same_Some e d is) all.0
    sound_at (e ∷ ds) (suc k) d all is = sound_at ds k d all.1 is

    each : (number : ℕ) (device : Plain) → slice_get devices number ≡ Some device → DidAllSent f number device
    each number device is =
        let did = front.each number device is in
        let s = sound_at devices number device sound is in
        record {
          config = did.config;
          legal = s.legal;
          exclusive = s.exclusive;
          isolated = s.isolated;
          entries = did.entries ∙ ap (flat_map (sent_by (length f.configs) number)) whole ∙ sent_is f number;
          passes = did.passes;
          numbered = s.numbered;
          counted = s.counted;
        }

-- what a list that was lent as a slice has afterwards
pub taken_front : {X : Type 0} (n : ℕ) (xs ys : List X) → n ≡ length xs → take n (xs ++ ys) ≡ xs
taken_front n [] ys is = subst (λ m. take m ys ≡ []) (sym is) refl
taken_front n (x ∷ xs) ys is = subst (λ m. take m (x ∷ xs ++ ys) ≡ x ∷ xs) (sym is) (ap (λ rest. x ∷ rest) (taken_front (length xs) xs ys refl))

-- ---- replies are short

pub short_all : (replies : List Replied) → AllByRecursion IsShortReply replies → All IsShortReply replies
short_all [] all = All-nil IsShortReply
short_all (r ∷ replies) all = All-cons IsShortReply r replies all.0 (short_all replies all.1)

pub reached_by : (number : ℕ) (outer : Request) (old new : List Plain) (inner : Response) (r : Result Response NoMemory) → tunnel_rule (length old) outer ≡ None →
    StepsOne old new (target_of outer) number Actor.Manager (Act.Command (inner_of outer)) (Reply.Answer inner) → length inner.payload ≤ 2048 → IfOk r (λ response. response ≡ tunnel_wrapped outer inner) →
    IfOk r (Reached number outer old new)
reached_by number outer old new inner (Ok response) sound steps short is = record {
  sound = sound;
  inner = inner;
  steps = steps;
  is = is;
  short = subst (λ (s : Response). length s.payload ≤ 2064) (sym is) (wrapped_short (target_of outer) inner short);
}
reached_by number outer old new inner (Err fault) sound steps short is = tt
