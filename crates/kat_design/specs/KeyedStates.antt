-- Used inside only.
-- States that are read key by key: tables, sets, tallies and tallies by key.
use Rattle.std.specs.Prelude.{◌≡◌, List}
use Rattle.kat_type.specs.declared.done.Done.{Done}
use Rattle.kat_design.specs.Meanings.{Meaning}

-- a state of t is at each key a state of the meaning there
pub record IsKeyed {T S K : Type 0} (kin : T → T → Type 0) (t : Meaning T) (m : K → Meaning S) (read : T → K → S) : Type 0 where
  pub reads : (xs : List Done) (k : K) → read (t.state_of xs) k ≡ (m k).state_of xs
  pub one : (a b : T) → kin a b → ((k : K) → read a k ≡ read b k) → a ≡ b
  pub joins : (xs ys : List Done) (k : K) → read (t.joined (t.state_of xs) (t.state_of ys)) k ≡ (m k).joined (read (t.state_of xs) k) (read (t.state_of ys) k)
  pub adds : (xs : List Done) (new : Done) (k : K) → read (t.added (t.state_of xs) new) k ≡ (m k).added (read (t.state_of xs) k) new
  pub goes : (xs ys : List Done) → kin (t.state_of xs) (t.state_of ys)
  pub goes_added : (xs ys : List Done) (new : Done) → kin (t.added (t.state_of xs) new) (t.state_of ys)
  pub goes_joined : (xs ys zs : List Done) → kin (t.joined (t.state_of xs) (t.state_of ys)) (t.state_of zs)

-- a state of p is a state of m in a variant
pub record IsWrapped {P S : Type 0} (kin : P → P → Type 0) (inner : S → S → Type 0) (p : Meaning P) (m : Meaning S) (wrap : S → P) : Type 0 where
  pub is : (xs : List Done) → p.state_of xs ≡ wrap (m.state_of xs)
  pub joins : (a b : S) → p.joined (wrap a) (wrap b) ≡ wrap (m.joined a b)
  pub adds : (a : S) (new : Done) → p.added (wrap a) new ≡ wrap (m.added a new)
  pub goes : (a b : S) → inner a b → kin (wrap a) (wrap b)
