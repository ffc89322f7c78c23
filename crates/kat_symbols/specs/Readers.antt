-- The reader of symbolic values: its variables, the values that it read once, and the facts so far.
use Rattle.std.specs.Prelude.{ℕ, suc, Bool, true, false, ◌&&◌, nat_eq, if◌then◌else◌, List, [], ◌∷◌, ◌++◌, length, Option, Some, None, option_map}
use Rattle.kat_linear.specs.Rows.{Form}
use Rattle.kat_form.specs.Facts.{Fact}
use Rattle.kat_form.specs.Facts.Fact.{truth_is}
use Rattle.kat_form.specs.Readings.{folded_value}
use Rattle.kat_symbols.specs.Connectives.{denied, or_of, fact_same}
use Rattle.kat_symbols.specs.Sums.{variable}
use Rattle.kat_symbols.specs.declared.names.Instance.{Instance}
use Rattle.kat_symbols.specs.declared.names.Instance.TheVariants.{Claim, Argument}
use Rattle.kat_symbols.specs.declared.names.Name.{Name}
use Rattle.kat_symbols.specs.declared.names.Name.TheVariants.{Key, Kept, Effect, Begun, Element, LastTime, LastReplica, Time, Replica}
use Rattle.kat_symbols.specs.declared.names.Place.TheVariants.{Field, Leaf}
use Rattle.kat_symbols.specs.declared.names.Slot.{Slot}
use Rattle.kat_symbols.specs.declared.names.Slot.TheVariants.{Named, Chosen}

-- a symbolic value: a number or a name is a linear form, a truth value is a fact
pub data Symbol : Type 0 where
  number : Form → Symbol
  truth : Fact → Symbol

pub record Reader : Type 0 where
  pub slots : List Slot  -- the number of a number variable is its place
  pub flags : List Name  -- the number of a truth variable is its place
  pub kept : List (Name × Symbol)  -- what is read once
  pub facts : List Fact  -- in order

-- a reader that has read nothing
abbrev pub fresh : Reader
fresh = record { slots = []; flags = []; kept = []; facts = [] }

-- names are told apart by their codes
abbrev pub instance_code : Option Instance → ℕ
instance_code None = 0
instance_code (Some Claim) = 1
instance_code (Some (Argument j)) = suc (suc j)

abbrev pub code_of : Name → ℕ × ℕ × ℕ × ℕ
code_of (Key i) = (0, 0, 0, instance_code (Some i))
code_of (Kept (Field f) at) = (1, f, 0, instance_code at)
code_of (Kept (Leaf c l) at) = (2, c, l, instance_code at)
code_of (Effect c l) = (3, c, l, 0)
code_of Begun = (4, 0, 0, 0)
code_of (Element j) = (5, j, 0, 0)
code_of LastTime = (6, 0, 0, 0)
code_of LastReplica = (7, 0, 0, 0)
code_of Time = (8, 0, 0, 0)
code_of Replica = (9, 0, 0, 0)

abbrev pub same_code : (ℕ × ℕ × ℕ × ℕ) → (ℕ × ℕ × ℕ × ℕ) → Bool
same_code (k, a, b, i) (l, c, d, j) = nat_eq k l && nat_eq a c && nat_eq b d && nat_eq i j

abbrev pub same_name : Name → Name → Bool
same_name n m = same_code (code_of n) (code_of m)

abbrev pub is_slot_of : Name → Slot → Bool
is_slot_of n (Named m) = same_name n m
is_slot_of n Chosen = false

-- the place of the first slot, and of the first flag, of a name
abbrev pub place_of : Name → List Slot → Option ℕ
place_of n [] = None
place_of n (s ∷ ss) = if is_slot_of n s then Some 0 else option_map suc (place_of n ss)

abbrev pub place_in : Name → List Name → Option ℕ
place_in n [] = None
place_in n (m ∷ ms) = if same_name n m then Some 0 else option_map suc (place_in n ms)

abbrev pub with_slot : Slot → Reader → Reader
with_slot s r = record { slots = r.slots ++ s ∷ []; flags = r.flags; kept = r.kept; facts = r.facts }

abbrev pub with_flag : Name → Reader → Reader
with_flag n r = record { slots = r.slots; flags = r.flags ++ n ∷ []; kept = r.kept; facts = r.facts }

abbrev pub with_kept : Name → Symbol → Reader → Reader
with_kept n s r = record { slots = r.slots; flags = r.flags; kept = r.kept ++ (n, s) ∷ []; facts = r.facts }

-- a fact more
abbrev pub state : Fact → Reader → Reader
state f r = record { slots = r.slots; flags = r.flags; kept = r.kept; facts = r.facts ++ f ∷ [] }

abbrev pub number_at : Option ℕ → Name → Reader → Form × Reader
number_at (Some v) n r = (variable v, r)
number_at None n r = (variable (length r.slots), with_slot (Named n) r)

-- the number variable of a name: the one that it has, or a new one
abbrev pub read_name : Name → Reader → Form × Reader
read_name n r = number_at (place_of n r.slots) n r

abbrev pub flag_at : Option ℕ → Name → Reader → Fact × Reader
flag_at (Some v) n r = (truth_is v true, r)
flag_at None n r = (truth_is (length r.flags) true, with_flag n r)

-- the truth variable of a name: the one that it has, or a new one
abbrev pub read_flag : Name → Reader → Fact × Reader
read_flag n r = flag_at (place_in n r.flags) n r

-- a new variable v, of which two facts say that it is a if c is true, and otherwise b
abbrev pub chosen : Fact → Form → Form → Reader → Form × Reader
chosen c a b r =
    let v = variable (length r.slots) in
    (v, state (or_of c (fact_same v b)) (state (or_of (denied c) (fact_same v a)) (with_slot Chosen r)))

abbrev pub choose_by : Option Bool → Fact → Form → Form → Reader → Form × Reader
choose_by (Some true) c a b r = (a, r)
choose_by (Some false) c a b r = (b, r)
choose_by None c a b r = chosen c a b r

-- what "if c then a else b" is: if c folds to true or false, that branch, and otherwise a new variable
abbrev pub choose : Fact → Form → Form → Reader → Form × Reader
choose c a b r = choose_by (folded_value c) c a b r

-- what a name was read as
abbrev pub found : Name → List (Name × Symbol) → Option Symbol
found n [] = None
found n (k ∷ ks) = if same_name n k.0 then Some k.1 else found n ks

abbrev pub kept_by : Option Symbol → Name → (Reader → Symbol × Reader) → Reader → Symbol × Reader
kept_by (Some s) n read r = (s, r)
kept_by None n read r = let x = read r in (x.0, with_kept n x.0 x.1)

-- a value that is read where it first occurs, and from then on is what it was read as
abbrev pub read_once : Name → (Reader → Symbol × Reader) → Reader → Symbol × Reader
read_once n read r = kept_by (found n r.kept) n read r
