-- How a run of a program ends.
use Rattle.std.specs.Prelude.{◌≡◌, ◌⊎◌, ℕ, ◌+◌, ◌<◌, List, [], length, Option, Some, None, String}
use Rattle.std.specs.Option.{IfSome}
use Rattle.dcd_base.specs.Streams.{HasRisen, Passes}
use Rattle.edge_io.specs.{ReadEnds.TakesAll, ReadEnds.TakesAtMost, ReadEnds.TakesMore, Words.words_of, declared.ends.End.End, Ends.UnlessAnswered, Meanings.Meaning}

-- ---- what is seen of a source and a sink, before and after

pub record Seen : Type 0 where
  -- what the source has left, where it tells, and how many of its reads failed
  pub left : Option (List ℕ)
  pub left_now : Option (List ℕ)
  pub reads : ℕ
  pub reads_now : ℕ
  -- what the sink took, where it tells, and how many of its writes failed
  pub taken : Option (List ℕ)
  pub taken_now : Option (List ℕ)
  pub writes : ℕ
  pub writes_now : ℕ

-- ---- the input of a task

-- More was left than the task reads, all of which is its input.
pub record ReadsFront (most : ℕ) (left now : Option (List ℕ)) (input : List ℕ) : Type 0 where
  pub took : TakesMore most left now
  pub all : IfSome left (λ all. input ≡ all)
  pub long : most < length input

-- This input was read: all that was left, to its end, or a front of it that is longer than a task reads; or nothing.
abbrev pub IsRead : Option ℕ → Option (List ℕ) → Option (List ℕ) → List ℕ → Type 0
IsRead None left now input = input ≡ []
IsRead (Some most) left now input = TakesAll most left now input ⊎ ReadsFront most left now input

-- The task reads the source, and a read failed.
abbrev pub IsUnread : Option ℕ → ℕ → ℕ → Type 0
IsUnread None reads now = ⊥
IsUnread (Some most) reads now = HasRisen reads now

-- This input is told by the source.
abbrev pub IsTold : Option ℕ → Option (List ℕ) → List ℕ → Type 0
IsTold None left input = input ≡ []
IsTold (Some most) left input = left ≡ Some input

-- ---- what is written

-- By these words a run is to end so, and to write this.
pub record IsPlanned {T E : Type 0} (m : Meaning T E) (words : List (List ℕ)) (seen : Seen) (status : E) (printed : List ℕ) : Type 0 where
  pub task : T
  pub asked : m.asks words (Some task)
  pub input : List ℕ
  pub read : IsRead (m.most task) seen.left seen.left_now input
  pub plan : m.plan task input status printed

-- All of it is written.
pub record IsWritten {T E : Type 0} (m : Meaning T E) (words : List (List ℕ)) (seen : Seen) (status : E) : Type 0 where
  pub printed : List ℕ
  pub planned : IsPlanned m words seen status printed
  pub took : Passes seen.taken seen.taken_now [] printed

-- The words are refused, and the line on them is written.
pub record IsUsage {T E : Type 0} (m : Meaning T E) (words : List (List ℕ)) (seen : Seen) : Type 0 where
  pub refused : m.asks words None
  pub took : Passes seen.taken seen.taken_now [] m.usage

-- This is to be written: the line on words that are refused, or what is planned for some end.
abbrev pub IsToWrite : {T E : Type 0} → Meaning T E → List (List ℕ) → Seen → List ℕ → Type 0
IsToWrite {T} {E} m words seen printed = (m.asks words None × (printed ≡ m.usage)) ⊎ ((status : E) × IsPlanned m words seen status printed)

-- A front of it is written, and a write failed.
pub record IsBegun {T E : Type 0} (m : Meaning T E) (words : List (List ℕ)) (seen : Seen) : Type 0 where
  pub printed : List ℕ
  pub rest : List ℕ
  pub planned : IsToWrite m words seen printed
  pub took : Passes seen.taken seen.taken_now rest printed
  pub write_fault : HasRisen seen.writes seen.writes_now

-- The words are taken, and nothing is written, since a read failed.
pub record IsReadFault {T E : Type 0} (m : Meaning T E) (words : List (List ℕ)) (seen : Seen) : Type 0 where
  pub task : T
  pub asked : m.asks words (Some task)
  pub read_fault : IsUnread (m.most task) seen.reads seen.reads_now
  pub nothing : seen.taken_now ≡ seen.taken

-- The words are taken, and nothing is written, for want of memory.
pub record IsWithoutMemory {T E : Type 0} (m : Meaning T E) (words : List (List ℕ)) (seen : Seen) : Type 0 where
  pub task : T
  pub asked : m.asks words (Some task)
  pub nothing : seen.taken_now ≡ seen.taken

-- ---- the run

-- What holds at each end.
abbrev pub EndsAs : {T E : Type 0} → Meaning T E → List (List ℕ) → Seen → End → E → Type 0
EndsAs m words seen End.Done status = IsWritten m words seen status
EndsAs m words seen (End.Answer number) status = IsWritten m words seen status
EndsAs m words seen End.Refused status = IsWritten m words seen status
EndsAs m words seen (End.Refusal number) status = IsWritten m words seen status
EndsAs m words seen End.Usage status = IsUsage m words seen
EndsAs m words seen End.NoMemory status = IsWithoutMemory m words seen
EndsAs m words seen End.ReadFault status = IsReadFault m words seen
EndsAs m words seen End.WriteFault status = IsBegun m words seen

-- Nothing stands in the way: the words ask for a task and its input is sound, and no read that it needs and no write failed.
pub record IsSound {T E : Type 0} (m : Meaning T E) (words : List (List ℕ)) (seen : Seen) : Type 0 where
  pub task : T
  pub asked : m.asks words (Some task)
  pub input : List ℕ
  pub told : IsTold (m.most task) seen.left input
  pub sound : m.sound task input
  pub no_read_fault : IsUnread (m.most task) seen.reads seen.reads_now → ⊥
  pub no_write_fault : HasRisen seen.writes seen.writes_now → ⊥

-- The words ask for a task that reads so many bytes at most.
pub record AsksToRead {T E : Type 0} (m : Meaning T E) (words : List (List ℕ)) (most : ℕ) : Type 0 where
  pub task : T
  pub asked : m.asks words (Some task)
  pub most_is : m.most task ≡ Some most

pub record EndsSo {T E : Type 0} (m : Meaning T E) (words : List (List ℕ)) (seen : Seen) (status : E) : Type 0 where
  -- what is written, and why not more
  pub ends : EndsAs m words seen (m.end status) status
  -- no more is taken of the source than one byte above what a task reads
  pub taken : (most : ℕ) → AsksToRead m words most → TakesAtMost (most + 1) seen.left seen.left_now
  -- where nothing stands in the way, there is an answer, or memory was wanted
  pub complete : UnlessAnswered (m.end status) (¬ IsSound m words seen)

-- what is seen of a source and a sink, before and after
abbrev pub seen_of : {S K : Type 0} → (S → Option (List ℕ)) → (S → ℕ) → (K → Option (List ℕ)) → (K → ℕ) → S → S → K → K → Seen
seen_of left reads taken writes source source' sink sink' = record {
  left = left source;
  left_now = left source';
  reads = reads source;
  reads_now = reads source';
  taken = taken sink;
  taken_now = taken sink';
  writes = writes sink;
  writes_now = writes sink';
}

-- How the run by these words ended that read from one source and wrote to one sink. A source that is not asked for is as it was.
pub record Ran {T E S K Z : Type 0} (m : Meaning T E) (words : List (String Z)) (left : S → Option (List ℕ)) (reads : S → ℕ) (taken : K → Option (List ℕ)) (writes : K → ℕ)
    (source source' : S) (sink sink' : K) (status : E) : Type 0 where
  pub ends : EndsSo m (words_of words) (seen_of left reads taken writes source source' sink sink') status
  pub untouched : ((most : ℕ) → AsksToRead m (words_of words) most → ⊥) → source' ≡ source
