-- Used inside only.
-- Used by kat_decoding and inside only: which components can have an effect and be read.
use Rattle.std.specs.Prelude.{Bool, true, false, ◌&&◌, ◌||◌, List, [], ◌∷◌, Option, None, Some}
use Rattle.kat_num.specs.declared.values.Sort.{Sort}
use Rattle.kat_num.specs.declared.values.Sort.TheVariants as sort
use Rattle.kat_design.specs.Faults.{is_sort}
use Rattle.kat_design.specs.Kinds.{is_kind, sort_kind}
use Rattle.kat_design.specs.declared.kinds.Kind.{Kind}
use Rattle.kat_design.specs.declared.kinds.Kind.TheVariants as kind
use Rattle.kat_type.specs.declared.signatures.OpSig.{OpSig}
use Rattle.kat_type.specs.declared.signatures.QuerySig.{QuerySig}
use Rattle.kat_rules.specs.declared.constants.Setting.{Setting}
use Rattle.kat_rules.specs.declared.tokens.Token.{Token}
use Rattle.kat_rules.specs.declared.tokens.Token.TheVariants as token

-- a parameter has the sort; if there are keys, a parameter has their sort
abbrev pub has_parameter : Sort → List Sort → Bool
has_parameter s [] = false
has_parameter s (t ∷ sorts) = is_sort s t || has_parameter s sorts

abbrev pub has_key : Option Sort → List Sort → Bool
has_key None sorts = true
has_key (Some s) sorts = has_parameter s sorts

-- a truth value may come of leaves of each kind, any other value of its own kind alone
abbrev pub reaches : Kind → Kind → Bool
reaches kind.Truth k = true
reaches kind.Number k = is_kind kind.Number k
reaches kind.Name k = is_kind kind.Name k

-- some query can read a leaf of the kind at such keys
abbrev pub some_query : List QuerySig → Option Sort → Kind → Bool
some_query [] key k = false
some_query (q ∷ queries) key k = (has_key key q.sorts && reaches (sort_kind q.sort) k) || some_query queries key k

-- some operation can give something to a leaf of the kind at such keys
abbrev pub gives_some : List Sort → Kind → Bool
gives_some sorts kind.Name = has_parameter sort.Name sorts
gives_some sorts kind.Number = true
gives_some sorts kind.Truth = true

abbrev pub some_op : List OpSig → Option Sort → Kind → Bool
some_op [] key k = false
some_op (o ∷ ops) key k = (has_key key o.sorts && gives_some o.sorts k) || some_op ops key k

-- a leaf of the kind at such keys can have an effect and be read; and some leaf can, whatever its kind
abbrev pub is_usable_leaf : Setting → Option Sort → Kind → Bool
is_usable_leaf x key k = some_query x.sig.queries key k && some_op x.sig.ops key k

abbrev pub has_usable_leaf : Setting → Option Sort → Bool
has_usable_leaf x key = is_usable_leaf x key kind.Number || (is_usable_leaf x key kind.Name || is_usable_leaf x key kind.Truth)

-- the token at which it is known what a component may have: some leaf of it can have an effect and be read
abbrev pub may_be_used : Setting → Token → Bool
may_be_used x token.Cell = has_usable_leaf x None
may_be_used x token.Tally = is_usable_leaf x None kind.Number
may_be_used x (token.Keys s) = has_usable_leaf x (Some s)
may_be_used x _ = true
