-- How the parts of a call end the whole of it, whatever the command.
use Rattle.std.proofs.Common.{◌≡◌, ℕ, zero, suc, ◌+◌, ◌-◌, ◌<◌, ◌≤◌, ◌⊎◌, inl, inr, Bool, true, List, [], ◌∷◌, ◌++◌, length, map, take, drop, get_or, add-one, refl, sym, ◌∙◌, ap, subst, append_assoc, arith, Option, Some, None, Result, Ok, Err}
use Rattle.std.specs.Prelude.{IfOk, OnErr, Vec, unwrap_or}
use Rattle.std.specs.List.{slice_index_or, take-map}
use Rattle.std.specs.Global.{Global}
use Rattle.kat_io.specs.Outside.{IsSame, Rose, grown}
use Rattle.kat_cli.specs.Ending.{FailsAt, FailsToRead, FilesSeen, Judges, Outcome, OutputSeen, Prints, contents}
use Rattle.kat_cli.specs.Outcome.{AreRead, EndsSo, FirstRefusal, IfRead, IsEnd, IsFirstLong, IsRead, IsTooLong, IsUnsure, ProofRefuses, Refuses, RefusesLate, Verdict, WroteAll, WroteFront, long, judged, late}
use Rattle.kat_world.specs.Written.{IsCutShort}
use Rattle.kat_cli.specs.Commands.{has_files}
use Rattle.kat_cli.specs.declared.status.Refusal.{Refusal}
use Rattle.kat_cli.specs.declared.status.Status.{Status}
use Rattle.kat_cli.specs.declared.status.Status.TheVariants.{Done, Usage, ReadFault, Refused, NoDesign, Undecided, Stopped, Memory, WriteFault, ProofRefused}
use Rattle.kat_words.specs.declared.words.Command.{Command}

-- writes join
pub grown-grown : (told : Option (List ℕ)) (xs ys : List ℕ) → grown (grown told xs) ys ≡ grown told (xs ++ ys)
grown-grown None xs ys = refl
grown-grown (Some told) xs ys = ap Some (append_assoc told xs ys)

-- a text that is cut short cuts a longer one short
pub cut_first : (old new : Option (List ℕ)) (xs ys : List ℕ) → IsCutShort old new xs → IsCutShort old new (xs ++ ys)
cut_first old new xs ys cut =
    (cut.0, (cut.1.0 ++ ys, sym (append_assoc cut.0 cut.1.0 ys) ∙ ap (λ t. t ++ ys) cut.1.1), cut.2)

pub cut_second : (old mid new : Option (List ℕ)) (xs ys : List ℕ) → mid ≡ grown old xs → IsCutShort mid new ys → IsCutShort old new (xs ++ ys)
cut_second old mid new xs ys first cut =
    (xs ++ cut.0, (cut.1.0, append_assoc xs cut.0 cut.1.0 ∙ ap (λ t. xs ++ t) cut.1.1), cut.2 ∙ ap (λ o. grown o cut.0) first ∙ grown-grown old xs cut.0)

rose-later : (before mid now : ℕ) → before ≤ mid → Rose mid now → Rose before now
rose-later before mid now le h = omega arith

-- one file more is read
read_next : {X : Type 0} (say : X → List ℕ) (hold : List ℕ → Option (List ℕ)) (paths : List X) (i : ℕ) (d : X) (read : List (List ℕ)) (bytes : List ℕ)
    → i < length paths → AreRead (map hold (take i (map say paths))) read → IsRead (hold (say (get_or paths i d))) bytes
    → AreRead (map hold (take (suc i) (map say paths))) (read ++ bytes ∷ [])
read_next say hold [] i d read bytes lt r h = absurd (omega (arith, lt))
read_next say hold (p ∷ paths) zero d [] bytes lt r h = (h, tt)
read_next say hold (p ∷ paths) zero d (c ∷ read) bytes lt r h = absurd r
read_next say hold (p ∷ paths) (suc i) d [] bytes lt r h = absurd r
read_next say hold (p ∷ paths) (suc i) d (c ∷ read) bytes lt r h = (r.0, read_next say hold paths i d read bytes (omega (arith, lt)) r.1 h)

pub read_on : {X : Type 0} (say : X → List ℕ) (hold hold' : List ℕ → Option (List ℕ)) (sure sure' : List ℕ → Bool) (paths : List X) (i : ℕ) (d x : X) (path : List ℕ)
    (read read' : List (List ℕ)) (bytes : List ℕ) → IsSame hold hold' sure sure' → i < length paths → path ≡ say x → x ≡ get_or paths i d
    → AreRead (map hold (take i (map say paths))) read → IsRead (hold' path) bytes → read' ≡ read ++ bytes ∷ []
    → AreRead (map hold (take (i + 1) (map say paths))) read'
read_on say hold hold' sure sure' paths i d x path read read' bytes same lt p e r h is =
    subst (λ (n : ℕ). AreRead (map hold (take n (map say paths))) read') (sym (add-one i))
    (subst (λ (all : List (List ℕ)). AreRead (map hold (take (suc i) (map say paths))) all) (sym is)
    (read_next say hold paths i d read bytes lt r
    (subst (λ (told : Option (List ℕ)). IsRead told bytes) (same.held_too path ∙ ap hold (p ∙ ap say e)) h)))

-- of the file at a place
pub read_there : {X : Type 0} (say : X → List ℕ) (hold hold' : List ℕ → Option (List ℕ)) (sure sure' : List ℕ → Bool) (paths : List X) (i : ℕ) (d : X)
    (read read' : List (List ℕ)) (bytes : List ℕ) → IsSame hold hold' sure sure' → i < length paths
    → AreRead (map hold (take i (map say paths))) read → IsRead (hold' (say (get_or paths i d))) bytes → read' ≡ read ++ bytes ∷ []
    → AreRead (map hold (take (i + 1) (map say paths))) read'
read_there say hold hold' sure sure' paths i d read read' bytes same lt r h is =
    read_on say hold hold' sure sure' paths i d (get_or paths i d) (say (get_or paths i d)) read read' bytes same lt refl refl r h is

-- as many are read as there are
pub read_length : (told : List (Option (List ℕ))) (bytes : List (List ℕ)) → AreRead told bytes → length bytes ≡ length told
read_length [] [] r = refl
read_length (t ∷ told) (b ∷ bytes) r = ap suc (read_length told bytes r.1)
read_length [] (b ∷ bytes) r = absurd r
read_length (t ∷ told) [] r = absurd r

said_at : {A : Type 0} {X : Type 0} (say : X → List ℕ) (f : List ℕ → A) (paths : List X) (i : ℕ) (d : X) (e : A) → i < length paths
    → slice_index_or (map f (map say paths)) i e ≡ f (say (get_or paths i d))
said_at say f [] i d e lt = absurd (omega (arith, lt))
said_at say f (p ∷ paths) zero d e lt = refl
said_at say f (p ∷ paths) (suc i) d e lt = said_at say f paths i d e (omega (arith, lt))

said_length : {A : Type 0} {X : Type 0} (say : X → List ℕ) (f : List ℕ → A) (paths : List X) → length (map f (map say paths)) ≡ length paths
said_length say f [] = refl
said_length say f (p ∷ paths) = ap suc (said_length say f paths)

-- one file isn't read, after those that are
fails_next : {X : Type 0} (say : X → List ℕ) (hold : List ℕ → Option (List ℕ)) (sure : List ℕ → Bool) (paths : List X) (i : ℕ) (d : X) (read : List (List ℕ))
    (before mid now : ℕ) (status : Status) → i < length paths → AreRead (map hold (take i (map say paths))) read → before ≤ mid
    → FailsAt (record { told = hold (say (get_or paths i d)); sure = sure (say (get_or paths i d)); faults = mid; faults_after = now }) i status
    → FailsToRead (record { told = map hold (map say paths); sure = map sure (map say paths); faults = before; faults_after = now }) status
fails_next say hold sure paths i d read before mid now Done lt r le h = absurd h
fails_next say hold sure paths i d read before mid now Usage lt r le h = absurd h
fails_next say hold sure paths i d read before mid now (ReadFault file) lt r le h = (
  rose-later before mid now le h.1,
  subst (λ (n : ℕ). IsUnsure (map sure (map say paths)) n) (sym h.0) (record {
    within = subst (λ (n : ℕ). i < n) (sym (said_length say sure paths)) lt;
    unsure = λ is. h.2 (sym (said_at say sure paths i d true lt) ∙ is);
  }),
)
fails_next say hold sure paths i d read before mid now (Refused file refusal) lt r le h = (
  subst (λ (n : ℕ). IsFirstLong (map hold (map say paths)) n) (sym h.0) (record {
    within = subst (λ (n : ℕ). i < n) (sym (said_length say hold paths)) lt;
    earlier = read;
    read = subst (λ (told : List (Option (List ℕ))). AreRead told read) (sym (take-map hold i (map say paths))) r;
    long = subst (λ (told : Option (List ℕ)). IsTooLong told) (sym (said_at say hold paths i d None lt)) h.2;
  }),
  h.1,
)
fails_next say hold sure paths i d read before mid now NoDesign lt r le h = absurd h
fails_next say hold sure paths i d read before mid now Undecided lt r le h = absurd h
fails_next say hold sure paths i d read before mid now Stopped lt r le h = absurd h
fails_next say hold sure paths i d read before mid now Memory lt r le h = tt
fails_next say hold sure paths i d read before mid now WriteFault lt r le h = absurd h
fails_next say hold sure paths i d read before mid now (ProofRefused condition line) lt r le h = absurd h

pub fails_on : {X : Type 0} (say : X → List ℕ) (hold hold' : List ℕ → Option (List ℕ)) (sure sure' : List ℕ → Bool) (paths : List X) (i : ℕ) (d x : X) (path : List ℕ)
    (read : List (List ℕ)) (before mid now : ℕ) (status : Status) → IsSame hold hold' sure sure' → i < length paths → path ≡ say x → x ≡ get_or paths i d
    → AreRead (map hold (take i (map say paths))) read → before ≤ mid
    → FailsAt (record { told = hold' path; sure = sure' path; faults = mid; faults_after = now }) i status
    → FailsToRead (record { told = map hold (map say paths); sure = map sure (map say paths); faults = before; faults_after = now }) status
fails_on say hold hold' sure sure' paths i d x path read before mid now status same lt p e r le h =
    fails_next say hold sure paths i d read before mid now status lt r le
    (subst (λ (b : Bool). FailsAt (record { told = hold (say (get_or paths i d)); sure = b; faults = mid; faults_after = now }) i status)
    (same.sure_too path ∙ ap sure (p ∙ ap say e))
    (subst (λ (told : Option (List ℕ)). FailsAt (record { told = told; sure = sure' path; faults = mid; faults_after = now }) i status)
    (same.held_too path ∙ ap hold (p ∙ ap say e)) h))

pub fails_there : {X : Type 0} (say : X → List ℕ) (hold hold' : List ℕ → Option (List ℕ)) (sure sure' : List ℕ → Bool) (paths : List X) (i : ℕ) (d : X)
    (read : List (List ℕ)) (before mid now : ℕ) (status : Status) → IsSame hold hold' sure sure' → i < length paths
    → AreRead (map hold (take i (map say paths))) read → before ≤ mid
    → FailsAt (record { told = hold' (say (get_or paths i d)); sure = sure' (say (get_or paths i d)); faults = mid; faults_after = now }) i status
    → FailsToRead (record { told = map hold (map say paths); sure = map sure (map say paths); faults = before; faults_after = now }) status
fails_there say hold hold' sure sure' paths i d read before mid now status same lt r le h =
    fails_on say hold hold' sure sure' paths i d (get_or paths i d) (say (get_or paths i d)) read before mid now status same lt refl refl r le h

-- the files aren't all read
pub unread_ends : (command : Command) (files : FilesSeen) (seen : OutputSeen) (status : Status) → FailsToRead files status
    → seen.written_after ≡ seen.written → Outcome command files seen status
unread_ends command files seen Done h w = absurd h
unread_ends command files seen Usage h w = absurd h
unread_ends command files seen (ReadFault file) h w = (h.0, h.1, w)
unread_ends command files seen (Refused file refusal) h w = (long h.0 h.1, w)
unread_ends command files seen NoDesign h w = absurd h
unread_ends command files seen Undecided h w = absurd h
unread_ends command files seen Stopped h w = absurd h
unread_ends command files seen Memory h w = inl w
unread_ends command files seen WriteFault h w = absurd h
unread_ends command files seen (ProofRefused condition line) h w = absurd h

front_or_none : (command : Command) (told : List (Option (List ℕ))) (seen : OutputSeen) (bytes : List (List ℕ)) → AreRead told bytes
    → (seen.written_after ≡ seen.written) ⊎ WroteFront command bytes seen.written seen.written_after
    → (seen.written_after ≡ seen.written) ⊎ IfRead told (λ bytes. WroteFront command bytes seen.written seen.written_after)
front_or_none command told seen bytes r (inl same) = inl same
front_or_none command told seen bytes r (inr front) = inr (bytes, r, front)

refused_so : (command : Command) (told : List (Option (List ℕ))) (bytes : List (List ℕ)) (file : ℕ) (refusal : Refusal) → AreRead told bytes
    → Refuses command [] bytes file refusal ⊎ RefusesLate command bytes file refusal → FirstRefusal command told file refusal
refused_so command told bytes file refusal r (inl h) = judged bytes r h
refused_so command told bytes file refusal r (inr h) = late bytes r h

-- the files are read, and then judged
pub judged_ends : (command : Command) (files : FilesSeen) (seen : OutputSeen) (bytes : List (List ℕ)) (status : Status) → AreRead files.told bytes
    → Judges command bytes seen status → Outcome command files seen status
judged_ends command files seen bytes Done r h = (bytes, r, h)
judged_ends command files seen bytes Usage r h = absurd h
judged_ends command files seen bytes (ReadFault file) r h = absurd h
judged_ends command files seen bytes (Refused file refusal) r h = (refused_so command files.told bytes file refusal r h.0, h.1)
judged_ends command files seen bytes NoDesign r h = (bytes, r, h)
judged_ends command files seen bytes Undecided r h = (bytes, r, h)
judged_ends command files seen bytes Stopped r h = (bytes, r, h)
judged_ends command files seen bytes Memory r h = front_or_none command files.told seen bytes r h
judged_ends command files seen bytes WriteFault r h = (h.0, (bytes, r, h.1))
judged_ends command files seen bytes (ProofRefused condition line) r h = ((bytes, r, h.0), h.1)

-- a text is written, with which the command ends so
pub prints_judged : (command : Command) (bytes : List (List ℕ)) (text : List ℕ) (end status : Status) (seen : OutputSeen)
    → IsEnd end → EndsSo command bytes end text → Prints text end seen status → Judges command bytes seen status
prints_judged command bytes text end Done seen is e h = (text, subst (λ (s : Status). EndsSo command bytes s text) (sym h.0) e, h.1)
prints_judged command bytes text end Usage seen is e h = absurd (subst IsEnd (sym h.0) is)
prints_judged command bytes text end (ReadFault file) seen is e h = absurd (subst IsEnd (sym h.0) is)
prints_judged command bytes text end (Refused file refusal) seen is e h = absurd (subst IsEnd (sym h.0) is)
prints_judged command bytes text end NoDesign seen is e h = (text, subst (λ (s : Status). EndsSo command bytes s text) (sym h.0) e, h.1)
prints_judged command bytes text end Undecided seen is e h = (text, subst (λ (s : Status). EndsSo command bytes s text) (sym h.0) e, h.1)
prints_judged command bytes text end Stopped seen is e h = (text, subst (λ (s : Status). EndsSo command bytes s text) (sym h.0) e, h.1)
prints_judged command bytes text end Memory seen is e h = inr (end, text, e, h)
prints_judged command bytes text end WriteFault seen is e h = (h.0, (end, text, e, h.1))
prints_judged command bytes text end (ProofRefused condition line) seen is e h = absurd (subst IsEnd (sym h.0) is)

-- a call whose command ended by itself
ended_outcome : (command : Command) (files : FilesSeen) (seen : OutputSeen) (status : Status) → IsEnd status → Outcome command files seen status
    → IfRead files.told (λ bytes. WroteAll command bytes status seen.written seen.written_after)
ended_outcome command files seen Done is h = h
ended_outcome command files seen Usage is h = absurd is
ended_outcome command files seen (ReadFault file) is h = absurd is
ended_outcome command files seen (Refused file refusal) is h = absurd is
ended_outcome command files seen NoDesign is h = h
ended_outcome command files seen Undecided is h = h
ended_outcome command files seen Stopped is h = h
ended_outcome command files seen Memory is h = absurd is
ended_outcome command files seen WriteFault is h = absurd is
ended_outcome command files seen (ProofRefused condition line) is h = absurd is

pub ended_asked : (one command : Command) (files : FilesSeen) (seen : OutputSeen) (told : List (Option (List ℕ))) (status : Status) → one ≡ command → files.told ≡ told
    → IsEnd status → Outcome one files seen status → IfRead told (λ bytes. WroteAll command bytes status seen.written seen.written_after)
ended_asked one command files seen told status asked tells is h =
    subst (λ (all : List (Option (List ℕ))). IfRead all (λ bytes. WroteAll command bytes status seen.written seen.written_after)) tells
    (ended_outcome command files seen status is (subst (λ (c : Command). Outcome c files seen status) asked h))

-- if the files are told and nothing fails
pub verdict : (command : Command) (files : FilesSeen) (seen : OutputSeen) (told : List (List ℕ)) (status : Status) → files.told ≡ map Some told
    → (Rose files.faults files.faults_after → ⊥) → (Rose seen.faults seen.faults_after → ⊥)
    → Outcome command files seen status → Verdict command told status
verdict command files seen told Done is r w h =
    let g = subst (λ (t : List (Option (List ℕ))). IfRead t (λ bytes. WroteAll command bytes Done seen.written seen.written_after)) is h in
    (g.0, g.1, (g.2.0, g.2.1))
verdict command files seen told Usage is r w h = absurd h
verdict command files seen told (ReadFault file) is r w h = absurd (r h.0)
verdict command files seen told (Refused file refusal) is r w h = subst (λ (t : List (Option (List ℕ))). FirstRefusal command t file refusal) is h.0
verdict command files seen told NoDesign is r w h =
    let g = subst (λ (t : List (Option (List ℕ))). IfRead t (λ bytes. WroteAll command bytes NoDesign seen.written seen.written_after)) is h in
    (g.0, g.1, (g.2.0, g.2.1))
verdict command files seen told Undecided is r w h =
    let g = subst (λ (t : List (Option (List ℕ))). IfRead t (λ bytes. WroteAll command bytes Undecided seen.written seen.written_after)) is h in
    (g.0, g.1, (g.2.0, g.2.1))
verdict command files seen told Stopped is r w h =
    let g = subst (λ (t : List (Option (List ℕ))). IfRead t (λ bytes. WroteAll command bytes Stopped seen.written seen.written_after)) is h in
    (g.0, g.1, (g.2.0, g.2.1))
verdict command files seen told Memory is r w h = tt
verdict command files seen told WriteFault is r w h = absurd (w h.0)
verdict command files seen told (ProofRefused condition line) is r w h =
    subst (λ (t : List (Option (List ℕ))). IfRead t (λ bytes. ProofRefuses command bytes condition line)) is h.0

-- as many texts as files
pub contents_length : (vectors : List (Vec ℕ Global)) → length (contents vectors) ≡ length vectors
contents_length [] = refl
contents_length (v ∷ vectors) = ap suc (contents_length vectors)

pub fits_too : {X : Type 0} (say : X → List ℕ) (command : Command) (hold : List ℕ → Option (List ℕ)) (paths : List X) (vectors : List (Vec ℕ Global))
    → AreRead (map hold (map say paths)) (contents vectors) → has_files command (length paths) ≡ true → has_files command (length vectors) ≡ true
fits_too say command hold paths vectors r h =
    subst (λ (n : ℕ). has_files command n ≡ true)
    (sym (said_length say hold paths) ∙ sym (read_length (map hold (map say paths)) (contents vectors) r) ∙ contents_length vectors) h

pub no_file : (vectors : List (Vec ℕ Global)) → length vectors < 1 → [] ≡ contents vectors
no_file [] lt = refl
no_file (v ∷ vectors) lt = absurd (omega (arith, lt))

pub one_file : (vectors : List (Vec ℕ Global)) (a d : Vec ℕ Global) → 1 ≤ length vectors → length vectors < 2
    → a ≡ get_or vectors 0 d → a.items ∷ [] ≡ contents vectors
one_file [] a d le lt p = absurd (omega (arith, le))
one_file (v ∷ []) a d le lt p = λ i. (p i).items ∷ []
one_file (v ∷ w ∷ vectors) a d le lt p = absurd (omega (arith, lt))

pub two_files : (vectors : List (Vec ℕ Global)) (a b d e : Vec ℕ Global) → 2 ≤ length vectors → length vectors < 3
    → a ≡ get_or vectors 0 d → b ≡ get_or vectors 1 e → a.items ∷ b.items ∷ [] ≡ contents vectors
two_files [] a b d e le lt p q = absurd (omega (arith, le))
two_files (v ∷ []) a b d e le lt p q = absurd (omega (arith, le))
two_files (v ∷ w ∷ []) a b d e le lt p q = λ i. (p i).items ∷ (q i).items ∷ []
two_files (v ∷ w ∷ x ∷ vectors) a b d e le lt p q = absurd (omega (arith, lt))

pub three_files : (vectors : List (Vec ℕ Global)) (a b c d e f : Vec ℕ Global) → 3 ≤ length vectors → length vectors < 4
    → a ≡ get_or vectors 0 d → b ≡ get_or vectors 1 e → c ≡ get_or vectors 2 f → a.items ∷ b.items ∷ c.items ∷ [] ≡ contents vectors
three_files [] a b c d e f le lt p q r = absurd (omega (arith, le))
three_files (v ∷ []) a b c d e f le lt p q r = absurd (omega (arith, le))
three_files (v ∷ w ∷ []) a b c d e f le lt p q r = absurd (omega (arith, le))
three_files (v ∷ w ∷ x ∷ []) a b c d e f le lt p q r = λ i. (p i).items ∷ (q i).items ∷ (r i).items ∷ []
three_files (v ∷ w ∷ x ∷ y ∷ vectors) a b c d e f le lt p q r = absurd (omega (arith, lt))

pub four_files : (vectors : List (Vec ℕ Global)) (a b c d e f g h : Vec ℕ Global) → 4 ≤ length vectors → length vectors < 5
    → a ≡ get_or vectors 0 e → b ≡ get_or vectors 1 f → c ≡ get_or vectors 2 g → d ≡ get_or vectors 3 h → a.items ∷ b.items ∷ c.items ∷ d.items ∷ [] ≡ contents vectors
four_files [] a b c d e f g h le lt p q r s = absurd (omega (arith, le))
four_files (v ∷ []) a b c d e f g h le lt p q r s = absurd (omega (arith, le))
four_files (v ∷ w ∷ []) a b c d e f g h le lt p q r s = absurd (omega (arith, le))
four_files (v ∷ w ∷ x ∷ []) a b c d e f g h le lt p q r s = absurd (omega (arith, le))
four_files (v ∷ w ∷ x ∷ y ∷ []) a b c d e f g h le lt p q r s = λ i. (p i).items ∷ (q i).items ∷ (r i).items ∷ (s i).items ∷ []
four_files (v ∷ w ∷ x ∷ y ∷ z ∷ vectors) a b c d e f g h le lt p q r s = absurd (omega (arith, lt))

-- three files, and those after them
pub files_behind : (vectors rest : List (Vec ℕ Global)) (a b c d e f : Vec ℕ Global) → 3 ≤ length vectors
    → a ≡ get_or vectors 0 d → b ≡ get_or vectors 1 e → c ≡ get_or vectors 2 f → rest ≡ drop 3 vectors → a.items ∷ b.items ∷ c.items ∷ contents rest ≡ contents vectors
files_behind [] rest a b c d e f le p q r s = absurd (omega (arith, le))
files_behind (v ∷ []) rest a b c d e f le p q r s = absurd (omega (arith, le))
files_behind (v ∷ w ∷ []) rest a b c d e f le p q r s = absurd (omega (arith, le))
files_behind (v ∷ w ∷ x ∷ vectors) rest a b c d e f le p q r s = λ i. (p i).items ∷ (q i).items ∷ (r i).items ∷ contents (s i)

take_whole : (vectors : List (Vec ℕ Global)) → take (length vectors) vectors ≡ vectors
take_whole [] = refl
take_whole (v ∷ vectors) = ap (λ rest. v ∷ rest) (take_whole vectors)

take_so : (vectors : List (Vec ℕ Global)) (n : ℕ) → n ≡ length vectors → take n vectors ≡ vectors
take_so vectors n e = subst (λ m. take m vectors ≡ vectors) (sym e) (take_whole vectors)

pub all_behind : (vectors : List (Vec ℕ Global)) → take (length vectors - 3) (drop 3 vectors) ≡ drop 3 vectors
all_behind [] = refl
all_behind (v ∷ []) = refl
all_behind (v ∷ w ∷ []) = refl
all_behind (v ∷ w ∷ x ∷ vectors) = take_so vectors (length (v ∷ w ∷ x ∷ vectors) - 3) (omega arith)

pub judges_as : (command known : Command) (texts' known_texts : List (List ℕ)) (seen : OutputSeen) (status : Status)
    → command ≡ known → known_texts ≡ texts' → Judges known known_texts seen status → Judges command texts' seen status
judges_as command known texts' known_texts seen status is same h =
    subst (λ (c : Command). Judges c texts' seen status) (sym is)
    (subst (λ (all : List (List ℕ)). Judges known all seen status) same h)

pub some_same : (a b : Command) → ◌≡◌ {A = Option Command} (Some a) (Some b) → a ≡ b
some_same a b e = ap (λ (o : Option Command). unwrap_or o a) e

-- what holds if a call fails, given what follows from it there
pub on_err : {T E : Type 0} (r : Result T E) (P : Type 0) → P → OnErr r P
on_err (Ok x) P p = tt
on_err (Err e) P p = p

pub on_err_too : {T E : Type 0} (r : Result T E) (P Q : Type 0) → OnErr r P → (P → Q) → OnErr r Q
on_err_too (Ok x) P Q h f = tt
on_err_too (Err e) P Q h f = f h

-- what holds of a good result gives what follows from it there
pub if_ok : {T E : Type 0} (r : Result T E) (P Q : T → Type 0) → IfOk r P → ((x : T) → P x → Q x) → IfOk r Q
if_ok (Ok x) P Q h f = f x h
if_ok (Err e) P Q h f = tt

-- a text was written with which a command is to end
pub prints_end : (text : List ℕ) (end : Status) (seen : OutputSeen) → IsEnd end → seen.written_after ≡ grown seen.written text → Prints text end seen end
prints_end text Done seen is w = (refl, w)
prints_end text Usage seen is w = absurd is
prints_end text (ReadFault file) seen is w = absurd is
prints_end text (Refused file refusal) seen is w = absurd is
prints_end text NoDesign seen is w = (refl, w)
prints_end text Undecided seen is w = (refl, w)
prints_end text Stopped seen is w = (refl, w)
prints_end text Memory seen is w = absurd is
prints_end text WriteFault seen is w = absurd is
prints_end text (ProofRefused condition line) seen is w = absurd is
