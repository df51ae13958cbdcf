-- What the program reads, why it runs no jobs, and with which status and text it says so.
use Rattle.std.specs.Prelude.{◌≡◌, ◌⊎◌, ℕ, ◌<◌, ◌≤◌, List, [], ◌∷◌, ◌++◌, length, Bool, true, false, Option, Some, None, Ok, Err, codes, decimal}
use Rattle.std.specs.Str.{bytes_eq}
use Rattle.std.specs.Io.KnownBytes.{Consumes, Appends}
use Rattle.mg_link.specs.Causes.{Rose}
use Rattle.mg_link.specs.Ends.{ReadWhole, TookFront, longest}
use Rattle.mg_script.specs.Plan.{Plan}
use Rattle.mg_script.specs.Script.{script_of, missing}
use Rattle.mg_script.specs.Places.{place_text}
use Rattle.mg_script.specs.Text.{line}
use Rattle.mg_script.specs.declared.fault.Place.{Place}
use Rattle.mg_program.specs.declared.refusal.RunRefusal.{RunRefusal}
use Rattle.mg_program.specs.declared.refusal.RunRefusal.TheVariants as refusals

-- the words are just `run`
abbrev pub is_run : List (List ℕ) → Bool
is_run [] = false
is_run (w ∷ []) = bytes_eq w (codes "run")
is_run (w ∷ v ∷ ws) = false

-- ---- what was read

-- the bytes were all that was left, and were read to their end
abbrev pub ReadInput : Option (List ℕ) → Option (List ℕ) → List ℕ → Type 0
ReadInput old new bytes = ReadWhole old new bytes × (length bytes ≤ longest)

-- the input was read to its end, and is no script; its first fault stands at the place
abbrev pub ReadNoScript : Option (List ℕ) → Option (List ℕ) → Place → Type 0
ReadNoScript old new p = (bytes : List ℕ) × ReadInput old new bytes × (script_of bytes ≡ Err p)

-- more bytes came than a script may have
abbrev pub ReadTooMuch : Option (List ℕ) → Option (List ℕ) → Type 0
ReadTooMuch old new = (bytes : List ℕ) × Consumes old new bytes × (longest < length bytes)

-- the input was read to its end, and is the script
abbrev pub ReadScript : Option (List ℕ) → Option (List ℕ) → Plan → Type 0
ReadScript old new script = (bytes : List ℕ) × ReadInput old new bytes × (script_of bytes ≡ Ok script)

-- each number of the order names a job
abbrev pub HasJobs : Plan → Type 0
HasJobs script = missing script ≡ None

-- this is the first number of the order that names no job
abbrev pub LacksJob : Plan → ℕ → Type 0
LacksJob script n = missing script ≡ Some n

-- the input was read to its end, and is a script whose order has a number that names no job
abbrev pub ReadMissing : Option (List ℕ) → Option (List ℕ) → ℕ → Type 0
ReadMissing old new n = (script : Plan) × ReadScript old new script × LacksJob script n

-- ---- why no jobs are run

-- when it comes to each
abbrev pub RefusedFor : List (List ℕ) → Option (List ℕ) → Option (List ℕ) → ℕ → ℕ → RunRefusal → Type 0
RefusedFor words old new before now refusals.Usage = is_run words ≡ false
RefusedFor words old new before now refusals.ReadFault = (is_run words ≡ true) × Rose before now
RefusedFor words old new before now refusals.TooLong = (is_run words ≡ true) × ReadTooMuch old new
RefusedFor words old new before now (refusals.BadScript p) = (is_run words ≡ true) × ReadNoScript old new p
RefusedFor words old new before now (refusals.NoSuchJob n) = (is_run words ≡ true) × ReadMissing old new n
RefusedFor words old new before now refusals.OutOfMemory = is_run words ≡ true

-- the bytes are a script
abbrev pub IsScript : List ℕ → Plan → Type 0
IsScript bytes script = (length bytes ≤ longest) × (script_of bytes ≡ Ok script)

-- the refusal is of these words and these bytes, which were all that was left
abbrev pub IsRefusalOf : List (List ℕ) → List ℕ → RunRefusal → Type 0
IsRefusalOf words bytes refusals.Usage = is_run words ≡ false
IsRefusalOf words bytes refusals.ReadFault = is_run words ≡ true
IsRefusalOf words bytes refusals.TooLong = (is_run words ≡ true) × (longest < length bytes)
IsRefusalOf words bytes (refusals.BadScript p) = (is_run words ≡ true) × (length bytes ≤ longest) × (script_of bytes ≡ Err p)
IsRefusalOf words bytes (refusals.NoSuchJob n) = (is_run words ≡ true) × ((script : Plan) × IsScript bytes script × LacksJob script n)
IsRefusalOf words bytes refusals.OutOfMemory = is_run words ≡ true

-- the exit status that says it
abbrev pub refusal_status : RunRefusal → ℕ
refusal_status refusals.Usage = 1
refusal_status refusals.ReadFault = 2
refusal_status refusals.TooLong = 7
refusal_status (refusals.BadScript p) = 3
refusal_status (refusals.NoSuchJob n) = 5
refusal_status refusals.OutOfMemory = 6

-- the text that is written of it
abbrev pub refusal_text : RunRefusal → List ℕ
refusal_text refusals.Usage = codes "usage: jobs run | jobs share | jobs grow N\n"
refusal_text refusals.ReadFault = codes "read fault\n"
refusal_text refusals.TooLong = codes "script too long\n"
refusal_text (refusals.BadScript p) = line (codes "bad script: " ++ place_text p)
refusal_text (refusals.NoSuchJob n) = line (codes "no such job: " ++ decimal n)
refusal_text refusals.OutOfMemory = codes "out of memory\n"

-- ---- what is told

-- a status was told by its text, whole; or the sink failed, and a front of the text was taken
abbrev pub EndingTold : ℕ → List ℕ → ℕ → Option (List ℕ) → Option (List ℕ) → ℕ → ℕ → Type 0
EndingTold meant text status old new before now = ((status ≡ meant) × Appends old new text) ⊎ ((status ≡ 4) × Rose before now × TookFront old new text)

-- as what a refusal is told where memory runs out for its text
abbrev pub short_refusal : RunRefusal → RunRefusal
short_refusal refusals.Usage = refusals.Usage
short_refusal refusals.ReadFault = refusals.ReadFault
short_refusal refusals.TooLong = refusals.TooLong
short_refusal (refusals.BadScript p) = refusals.OutOfMemory
short_refusal (refusals.NoSuchJob n) = refusals.OutOfMemory
short_refusal refusals.OutOfMemory = refusals.OutOfMemory

-- the status and the text are those of the refusal
abbrev pub RefusalTold : RunRefusal → ℕ → Option (List ℕ) → Option (List ℕ) → ℕ → ℕ → Type 0
RefusalTold refusal status old new before now = EndingTold (refusal_status refusal) (refusal_text refusal) status old new before now

-- it was told as itself, or memory ran out for its text
abbrev pub IsRefusalTold : RunRefusal → ℕ → Option (List ℕ) → Option (List ℕ) → ℕ → ℕ → Type 0
IsRefusalTold refusal status old new before now = RefusalTold refusal status old new before now ⊎ RefusalTold (short_refusal refusal) status old new before now
