-- The keys of a part, and those of several components.
use Rattle.std.proofs.Common.{◌≡◌, ◌⊎◌, ℕ, ◌-◌, ◌≤◌, Bool, true, false, ◌||◌, cond, List, [], ◌∷◌, length, get_or, take, drop, Option, None, Some, refl, sym, ◌∙◌, ap, subst, inl, inr, arith}
use Rattle.std.proofs.Math.Seq.{take-length}
use Rattle.std.specs.Cmp.{IsTotalOrder}
use Rattle.std.specs.Option.{is_some}
use Rattle.std.specs.Ordering.{is_eq}
use Rattle.kat_num.specs.Orders.{value_order}
use Rattle.kat_num.specs.declared.values.Value.{Value}
use Rattle.kat_lattice.specs.Keyed.{IsAscending, IsBefore, by_key, found, found_by}
use Rattle.kat_lattice.specs.Maps.{Table}
use Rattle.kat_lattice.specs.Sets.{SetsKin, has_key, set_laws, sets_joined}
use Rattle.kat_lattice.proofs.Readings.{union_has_both}
use Rattle.kat_design.specs.declared.states.Part.{Part}
use Rattle.kat_design.specs.declared.states.Part.TheVariants as part
use Rattle.kat_embed.specs.KeyLists.{entry_keys, keys_of}
use Rattle.kat_embed.specs.Keys.{AreKeys, HasOne, has_at, has_entry}

or_parts : (a b : Bool) → (a || b) ≡ true → (a ≡ true) ⊎ (b ≡ true)
or_parts true b e = inl refl
or_parts false b e = inr e

or_first : (a b : Bool) → a ≡ true → (a || b) ≡ true
or_first true b e = refl
or_first false b e = absurd (cc)

or_second : (a b : Bool) → b ≡ true → (a || b) ≡ true
or_second true b e = refl
or_second false b e = e

-- no keys
pub none_are : (Is : Value → Type 0) (keys : List Value) → keys ≡ [] → ((key : Value) → Is key → ⊥) → AreKeys Is keys
none_are Is keys same none =
    subst (AreKeys Is) (sym same) (record { ascending = tt; each = λ key. ((λ e. absurd (let bad : false ≡ true = e in cc)), (λ is. absurd (none key is))) })

-- the keys of one more component
pub either_keys : IsTotalOrder value_order → (Is : ℕ → Value → Type 0) (component : ℕ) (components : List ℕ) (keys more all : List Value)
    → AreKeys (λ key. HasOne (λ x. Is x key) components) keys → AreKeys (Is component) more → SetsKin value_order keys more → all ≡ sets_joined value_order keys more
    → AreKeys (λ key. HasOne (λ x. Is x key) (component ∷ components)) all
either_keys o Is component components keys more all rest one kin same =
    subst (AreKeys (λ key. HasOne (λ x. Is x key) (component ∷ components))) (sym same) (record {
      ascending = ((set_laws o).keeps keys more kin).right;
      each = λ key.
          let mine : Bool = has_key value_order key keys in
          let theirs : Bool = has_key value_order key more in
          let both : has_key value_order key (sets_joined value_order keys more) ≡ (mine || theirs) = union_has_both o keys more kin key in (
            (λ e. elim (or_parts mine theirs (sym both ∙ e)) as (λ _. Is component key ⊎ HasOne (λ x. Is x key) components) [
              | inl here ↦ inr ((rest.each key).0 here)
              | inr there ↦ inl ((one.each key).0 there)
            ]),
            (λ h. elim h as (λ _. has_key value_order key (sets_joined value_order keys more) ≡ true) [
              | inl here ↦ both ∙ or_second mine theirs ((one.each key).1 here)
              | inr there ↦ both ∙ or_first mine theirs ((rest.each key).1 there)
            ]),
          );
    })

-- the keys of entries
one_or : {A B : Type 0} (b : Bool) (x : A) (y : B) (o : Option A) (p : Option B) → is_some o ≡ is_some p → is_some (cond b (Some x) o) ≡ is_some (cond b (Some y) p)
one_or true x y o p e = refl
one_or false x y o p e = e

pub has_entries : {V : Type 0} (key : Value) (entries : List (Value × V)) → has_key value_order key (entry_keys entries) ≡ is_some (found_by (λ e. value_order key e.0) entries)
has_entries key [] = refl
has_entries key (e ∷ entries) =
    one_or (is_eq (value_order key e.0)) e.0 e (found value_order key (entry_keys entries)) (found_by (λ x. value_order key x.0) entries) (has_entries key entries)

before_entries : {V : Type 0} (e : Value × V) (entries : List (Value × V)) → IsBefore (by_key value_order) e entries → IsBefore value_order e.0 (entry_keys entries)
before_entries e [] h = h
before_entries e (x ∷ entries) h = (h.0, before_entries e entries h.1)

pub entries_ascend : {V : Type 0} (entries : List (Value × V)) → IsAscending (by_key value_order) entries → IsAscending value_order (entry_keys entries)
entries_ascend [] h = h
entries_ascend (e ∷ entries) h = (before_entries e entries h.0, entries_ascend entries h.1)

-- the keys of a part
entry_keys_are : {V : Type 0} (table : Table Value V) → IsAscending value_order (entry_keys table.entries) → AreKeys (λ key. has_entry table key ≡ true) (entry_keys table.entries)
entry_keys_are table up =
    record { ascending = up; each = λ key. (let e : has_key value_order key (entry_keys table.entries) ≡ has_entry table key = has_entries key table.entries in ((λ h. sym e ∙ h), (λ h. e ∙ h))) }

pub keys_are : (o : Option Part) → IsAscending value_order (keys_of o) → AreKeys (λ key. has_at o key ≡ true) (keys_of o)
keys_are (Some (part.Table table)) up = entry_keys_are table up
keys_are (Some (part.Set keys)) up = record { ascending = up; each = λ key. ((λ h. h), (λ h. h)) }
keys_are (Some (part.Tallies table)) up = entry_keys_are table up
keys_are (Some (part.Cell cell)) up = record { ascending = up; each = λ key. ((λ h. h), (λ h. h)) }
keys_are (Some (part.Tally sums)) up = record { ascending = up; each = λ key. ((λ h. h), (λ h. h)) }
keys_are None up = record { ascending = up; each = λ key. ((λ h. h), (λ h. h)) }

-- the same of a list that is that of the part
pub keys_as : (o : Option Part) (keys more : List Value) → SetsKin value_order keys more → more ≡ keys_of o → AreKeys (λ key. has_at o key ≡ true) more
keys_as o keys more kin same = subst (AreKeys (λ key. has_at o key ≡ true)) (sym same) (keys_are o (subst (IsAscending value_order) same kin.right))

-- what a pattern leaves of a list after its first element
abbrev pub rest_of : List ℕ → List ℕ
rest_of xs = take (length xs - 1) (drop 1 xs)

whole_rest : (first : ℕ) (more : List ℕ) → rest_of (first ∷ more) ≡ more
whole_rest first more = ap (λ n. take n more) (omega arith) ∙ take-length more

none_least : 1 ≤ 0 → ⊥
none_least h = omega (arith, h)

-- the keys of the first component and of the others
pub keys_step : IsTotalOrder value_order → (Is : ℕ → Value → Type 0) (components : List ℕ) (keys more all : List Value) → 1 ≤ length components
    → AreKeys (λ key. HasOne (λ x. Is x key) (rest_of components)) keys → AreKeys (Is (get_or components 0 0)) more → SetsKin value_order keys more → all ≡ sets_joined value_order keys more
    → AreKeys (λ key. HasOne (λ x. Is x key) components) all
keys_step o Is [] keys more all some rest one kin same = absurd (none_least some)
keys_step o Is (first ∷ others) keys more all some rest one kin same =
    either_keys o Is first others keys more all (subst (λ (xs : List ℕ). AreKeys (λ key. HasOne (λ x. Is x key) xs) keys) (whole_rest first others) rest) one kin same
