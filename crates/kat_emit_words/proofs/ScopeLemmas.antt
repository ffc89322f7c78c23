-- Scopes to which the names of parts come.
use Rattle.std.proofs.Common.{◌≡◌, ℕ, ◌+◌, true, List, [], ◌∷◌, ◌++◌, map, refl, ap, sym, ◌∙◌, arith, append-nil, append_assoc, subst}
use Rattle.std.proofs.lemmas.List.{map-append, flat_map_more}
use Rattle.std.proofs.lemmas.List.Elements.{All-nil, All-push}
use Rattle.std.specs.List.{flat_map}
use Rattle.std.specs.String.{string_bytes}
use Rattle.kat_emit_words.specs.Kept.{kept}
use Rattle.kat_emit_words.specs.Naming.{Adds, AreNames, Gains, is_identifier, names_in}
use Rattle.kat_emit_words.specs.Scopes.{AreNamesOf, AreTaken, CallsAre, GainsKeys, GainsLoop, GainsTools, GainsValue, HaveNames, LeavesAreNames, TakesPart, change_name, field_name, key_names, loop_names, loop_words, names_of_one, tool_names, top_names}
use Rattle.kat_emit_words.specs.declared.kept.Named.TheVariants.{Class, Field, Method, Change, Loop}
use Rattle.kat_emit_words.specs.declared.languages.Language.{Language}
use Rattle.kat_emit_words.specs.declared.languages.Language.TheVariants.{Python}
use Rattle.kat_emit_words.specs.declared.names.LoopNames.{LoopNames}
use Rattle.kat_emit_words.specs.declared.names.PartNames.{PartNames}
use Rattle.kat_emit_words.specs.declared.names.Names.{Names}
use Rattle.kat_emit_words.specs.declared.names.Taken.{Taken}
use Rattle.kat_emit_words.specs.declared.names.Tools.{Tools}
use Rattle.kat_emit_words.proofs.NameLemmas.{gains_more, length_more, names_more, no_names}

pub calls_more : (language : Language) (count : ℕ) (old new : List (List ℕ)) → CallsAre language count old → Gains (kept language Method) old new
    → CallsAre language (count + 1) new
calls_more language count old new calls gains = record {
  good = gains_more (kept language Method) old new calls.good gains;
  each = length_more (kept language Method) old new gains ∙ ap (λ n. n + 1) calls.each;
}

pub calls_further : (language : Language) (first count : ℕ) (old new : List (List ℕ)) → CallsAre language (first + count) old → Gains (kept language Method) old new
    → CallsAre language (first + (count + 1)) new
calls_further language first count old new calls gains = record {
  good = gains_more (kept language Method) old new calls.good gains;
  each = omega (arith, length_more (kept language Method) old new gains, calls.each);
}

-- an identifier is a name
pub one_name : (name : List ℕ) → is_identifier name ≡ true → names_of_one name ≡ name ∷ []
one_name [] h = cc
one_name (letter ∷ more) h = refl

pub have_none : (language : Language) (taken : Taken) → AreTaken language taken → HaveNames language taken taken []
have_none language taken are = record {
  taken = are;
  top = sym (append-nil (names_in taken.top.items));
  methods = sym (append-nil (names_in taken.methods.items));
  fields = sym (append-nil (names_in taken.fields.items));
  changes = sym (append-nil (names_in taken.changes.items));
  loops = sym (append-nil (names_in taken.loops.items));
  leaves = All-nil (LeavesAreNames language);
}

pub have_more : (language : Language) (old mid new : Taken) (parts : List PartNames) (part : PartNames) → HaveNames language old mid parts → TakesPart language mid new part
    → HaveNames language old new (parts ++ part ∷ [])
have_more language old mid new parts part have takes = record {
  taken = takes.taken;
  top = takes.top ∙ (ap (λ x. x ++ top_names part) have.top ∙ flat_map_more top_names (names_in old.top.items) parts part);
  methods = takes.methods ∙ (ap (λ x. x ++ key_names part) have.methods ∙ flat_map_more key_names (names_in old.methods.items) parts part);
  fields = takes.fields ∙ (ap (λ x. x ++ field_name part ∷ []) have.fields
      ∙ (append_assoc (names_in old.fields.items) (map field_name parts) (field_name part ∷ []) ∙ ap (λ x. names_in old.fields.items ++ x) (sym (map-append field_name parts (part ∷ [])))));
  changes = takes.changes ∙ (ap (λ x. x ++ change_name part ∷ []) have.changes
      ∙ (append_assoc (names_in old.changes.items) (map change_name parts) (change_name part ∷ []) ∙ ap (λ x. names_in old.changes.items ++ x) (sym (map-append change_name parts (part ∷ [])))));
  loops = takes.loops ∙ (ap (λ x. x ++ loop_names language part) have.loops ∙ flat_map_more (loop_names language) (names_in old.loops.items) parts part);
  leaves = All-push (LeavesAreNames language) parts part have.leaves takes.leaves;
}

pub keys_none : (language : Language) (old : List (List ℕ)) (name : List ℕ) → AreNames (kept language Method) old → name ≡ [] → GainsKeys language old old name
keys_none language old name are e = record { good = are; gained = sym (ap (λ x. old ++ names_of_one x) e ∙ append-nil old) }

pub keys_one : (language : Language) (old new : List (List ℕ)) (name : List ℕ) → AreNames (kept language Method) old → Adds (kept language Method) old new name
    → GainsKeys language old new name
keys_one language old new name are adds = record {
  good = names_more (kept language Method) old new name are adds;
  gained = adds.added ∙ ap (λ x. old ++ x) (sym (one_name name adds.fresh.identifier));
}

pub value_none : (language : Language) (old : List (List ℕ)) (name : List ℕ) → AreNames (kept language Class) old → name ≡ [] → GainsValue language old old name
value_none language old name are e = record { good = are; gained = sym (ap (λ x. old ++ names_of_one x) e ∙ append-nil old) }

pub value_one : (language : Language) (old new : List (List ℕ)) (name : List ℕ) → AreNames (kept language Class) old → Adds (kept language Class) old new name
    → GainsValue language old new name
value_one language old new name are adds = record {
  good = names_more (kept language Class) old new name are adds;
  gained = adds.added ∙ ap (λ x. old ++ x) (sym (one_name name adds.fresh.identifier));
}

pub loop_none : (language : Language) (old : List (List ℕ)) (loop : LoopNames) → AreNames (kept language Loop) old
    → loop_words language (string_bytes loop.key) (string_bytes loop.item) ≡ [] → GainsLoop language old old loop
loop_none language old loop are e = record { good = are; gained = sym (ap (λ x. old ++ x) e ∙ append-nil old) }

-- of a part that has no entries, in Python
pub loop_empty : (old : List (List ℕ)) (loop : LoopNames) → AreNames (kept Python Loop) old → string_bytes loop.key ≡ [] → string_bytes loop.item ≡ []
    → GainsLoop Python old old loop
loop_empty old loop are e f =
    loop_none Python old loop are (ap (λ x. names_of_one x ++ names_of_one (string_bytes loop.item)) e ∙ ap (λ x. names_of_one x) f)

pub loop_two : (old mid new : List (List ℕ)) (loop : LoopNames) → AreNames (kept Python Loop) old → Adds (kept Python Loop) old mid (string_bytes loop.key)
    → Adds (kept Python Loop) mid new (string_bytes loop.item) → GainsLoop Python old new loop
loop_two old mid new loop are key item =
    let one = one_name (string_bytes loop.key) key.fresh.identifier in
    let two = one_name (string_bytes loop.item) item.fresh.identifier in
    record {
      good = names_more (kept Python Loop) mid new (string_bytes loop.item) (names_more (kept Python Loop) old mid (string_bytes loop.key) are key) item;
      gained = item.added ∙ (ap (λ x. x ++ string_bytes loop.item ∷ []) key.added
          ∙ (append_assoc old (string_bytes loop.key ∷ []) (string_bytes loop.item ∷ [])
          ∙ (ap (λ x. old ++ (x ++ string_bytes loop.item ∷ [])) (sym one) ∙ ap (λ x. old ++ (names_of_one (string_bytes loop.key) ++ x)) (sym two))));
    }

-- four names that came one after the other
four_added : (old a b c new : List (List ℕ)) (w x y z : List ℕ) → a ≡ old ++ w ∷ [] → b ≡ a ++ x ∷ [] → c ≡ b ++ y ∷ [] → new ≡ c ++ z ∷ [] → new ≡ old ++ (w ∷ x ∷ y ∷ z ∷ [])
four_added old a b c new w x y z e f g h =
    let two : b ≡ old ++ (w ∷ x ∷ []) = f ∙ (ap (λ t. t ++ x ∷ []) e ∙ append_assoc old (w ∷ []) (x ∷ [])) in
    let three : c ≡ old ++ (w ∷ x ∷ y ∷ []) = g ∙ (ap (λ t. t ++ y ∷ []) two ∙ append_assoc old (w ∷ x ∷ []) (y ∷ [])) in
    h ∙ (ap (λ t. t ++ z ∷ []) three ∙ append_assoc old (w ∷ x ∷ y ∷ []) (z ∷ []))

pub tools_added : (language : Language) (old a b c new : List (List ℕ)) (tools : Tools) → AreNames (kept language Class) old
    → Adds (kept language Class) old a (string_bytes tools.less) → Adds (kept language Class) a b (string_bytes tools.lacks)
    → Adds (kept language Class) b c (string_bytes tools.joined) → Adds (kept language Class) c new (string_bytes tools.start) → GainsTools language old new tools
tools_added language old a b c new tools are less lacks joined start =
    let kept_words = kept language Class in
    let first = names_more kept_words old a (string_bytes tools.less) are less in
    let second = names_more kept_words a b (string_bytes tools.lacks) first lacks in
    let third = names_more kept_words b c (string_bytes tools.joined) second joined in
    record {
      good = names_more kept_words c new (string_bytes tools.start) third start;
      gained = four_added old a b c new (string_bytes tools.less) (string_bytes tools.lacks) (string_bytes tools.joined) (string_bytes tools.start)
          less.added lacks.added joined.added start.added;
    }

-- the names of a part, from what each of its scopes got
pub part_taken : (language : Language) (old new : Taken) (part : PartNames) (tools : Tools) (loop : LoopNames) (top : List (List ℕ)) → AreTaken language old
    → Adds (kept language Field) (names_in old.fields.items) (names_in new.fields.items) (field_name part)
    → Adds (kept language Change) (names_in old.changes.items) (names_in new.changes.items) (change_name part)
    → GainsKeys language (names_in old.methods.items) (names_in new.methods.items) (string_bytes part.keys)
    → GainsValue language (names_in old.top.items) top (string_bytes part.value)
    → GainsTools language top (names_in new.top.items) tools
    → tool_names tools ≡ string_bytes part.less ∷ string_bytes part.lacks ∷ string_bytes part.joined ∷ string_bytes part.start_name ∷ []
    → GainsLoop language (names_in old.loops.items) (names_in new.loops.items) loop
    → loop_words language (string_bytes loop.key) (string_bytes loop.item) ≡ loop_names language part
    → LeavesAreNames language part → TakesPart language old new part
part_taken language old new part tools loop top are field change keys value gained same looped alike leaves = record {
  taken = record {
    top = gained.good;
    fields = names_more (kept language Field) (names_in old.fields.items) (names_in new.fields.items) (field_name part) are.fields field;
    changes = names_more (kept language Change) (names_in old.changes.items) (names_in new.changes.items) (change_name part) are.changes change;
    methods = keys.good;
    loops = looped.good;
  };
  top = gained.gained ∙ (ap (λ x. x ++ tool_names tools) value.gained
      ∙ (append_assoc (names_in old.top.items) (names_of_one (string_bytes part.value)) (tool_names tools)
      ∙ ap (λ x. names_in old.top.items ++ (names_of_one (string_bytes part.value) ++ x)) same));
  methods = keys.gained;
  fields = field.added;
  changes = change.added;
  loops = looped.gained ∙ ap (λ x. names_in old.loops.items ++ x) alike;
  leaves = leaves;
}

-- all names of a module, from those of its class, its calls and its parts
pub names_all : (language : Language) (count : ℕ) (names : Names) (old new : Taken) (a b : List (List ℕ))
    → Adds (kept language Class) [] a (string_bytes names.class) → Adds (kept language Class) a b (string_bytes names.error)
    → Adds (kept language Class) b (names_in old.top.items) (string_bytes names.changes)
    → names_in old.fields.items ≡ [] → names_in old.changes.items ≡ [] → names_in old.loops.items ≡ []
    → CallsAre language count (names_in old.methods.items) → HaveNames language old new names.parts.items
    → names_in names.top.items ≡ names_in new.top.items → names_in names.methods.items ≡ names_in new.methods.items → AreNamesOf language count names
names_all language count names old new a b class error changes no_fields no_changes no_loops calls have top methods = record {
  top = subst (λ (x : List (List ℕ)). AreNames (kept language Class) x) (sym top) have.taken.top;
  top_is = top ∙ (have.top ∙ ap (λ x. x ++ flat_map top_names names.parts.items)
      (changes.added ∙ (ap (λ x. x ++ string_bytes names.changes ∷ []) (error.added ∙ ap (λ x. x ++ string_bytes names.error ∷ []) class.added))));
  methods = subst (λ (x : List (List ℕ)). AreNames (kept language Method) x) (sym methods) have.taken.methods;
  calls = names_in old.methods.items;
  each_call = calls.each;
  methods_are = methods ∙ have.methods;
  fields = subst (λ (x : List (List ℕ)). AreNames (kept language Field) x) (have.fields ∙ ap (λ x. x ++ map field_name names.parts.items) no_fields) have.taken.fields;
  changes = subst (λ (x : List (List ℕ)). AreNames (kept language Change) x) (have.changes ∙ ap (λ x. x ++ map change_name names.parts.items) no_changes) have.taken.changes;
  loops = subst (λ (x : List (List ℕ)). AreNames (kept language Loop) x) (have.loops ∙ ap (λ x. x ++ flat_map (loop_names language) names.parts.items) no_loops) have.taken.loops;
  leaves = have.leaves;
}

-- what is taken before the parts
pub first_taken : (language : Language) (taken : Taken) (none a b : List (List ℕ)) (class error changes : List ℕ) → none ≡ []
    → Adds (kept language Class) none a class → Adds (kept language Class) a b error → Adds (kept language Class) b (names_in taken.top.items) changes
    → names_in taken.fields.items ≡ [] → names_in taken.changes.items ≡ [] → names_in taken.loops.items ≡ []
    → AreNames (kept language Method) (names_in taken.methods.items) → AreTaken language taken
first_taken language taken none a b class error changes nothing e f g no_fields no_changes no_loops methods =
    let kept_words = kept language Class in
    let begin : AreNames kept_words none = subst (λ (x : List (List ℕ)). AreNames kept_words x) (sym nothing) (no_names kept_words) in
    record {
      top = names_more kept_words b (names_in taken.top.items) changes (names_more kept_words a b error (names_more kept_words none a class begin e) f) g;
      fields = subst (λ (x : List (List ℕ)). AreNames (kept language Field) x) (sym no_fields) (no_names (kept language Field));
      changes = subst (λ (x : List (List ℕ)). AreNames (kept language Change) x) (sym no_changes) (no_names (kept language Change));
      methods = methods;
      loops = subst (λ (x : List (List ℕ)). AreNames (kept language Loop) x) (sym no_loops) (no_names (kept language Loop));
    }
