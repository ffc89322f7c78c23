-- The text of a history's script is that of the printed lines.
use Rattle.std.proofs.Common.{◌≡◌, ℕ, suc, List, [], ◌∷◌, ◌++◌, map, refl, sym, ◌∙◌, ap, arith, append_assoc, append-nil, Some, pos, negsuc}
use Rattle.std.specs.Prelude.{codes}
use Rattle.std.specs.Fmt.{decimal}
use Rattle.std.proofs.lemmas.Fmt.{decimal_digit}
use Rattle.std.specs.List.{flat_map, slice_index_or}
use Rattle.kat_num.specs.Names.{name_of_code}
use Rattle.kat_num.specs.Values.{quoted, truth_text, value_text}
use Rattle.kat_num.specs.declared.values.Value.{Value}
use Rattle.kat_num.specs.declared.values.Value.TheVariants as value
use Rattle.kat_num.proofs.NameCodes.{name_of_code-code_of}
use Rattle.kat_script.specs.declared.said.Constant.{Constant}
use Rattle.kat_script.specs.declared.said.Constant.TheVariants.{Natural, Negated, Named, Truth}
use Rattle.kat_script.specs.declared.said.Said.{Said}
use Rattle.kat_script.specs.declared.said.Said.TheVariants.{Replicas, Does, Ships, Delivers, Asks}
use Rattle.kat_type.specs.declared.done.Done.{Done}
use Rattle.kat_type.specs.declared.signatures.OpSig.{OpSig}
use Rattle.kat_type.specs.declared.signatures.QuerySig.{QuerySig}
use Rattle.kat_type.specs.declared.signatures.Signature.{Signature}
use Rattle.kat_histories.specs.Pools.{asks_of}
use Rattle.kat_histories.specs.declared.calls.Call.{Call}
use Rattle.kat_histories.specs.declared.histories.History.{History}
use Rattle.kat_hist.specs.Scripts.{args_text, ask_text, do_text, op_name, query_name, script_text}
use Rattle.kat_hist.proofs.Items.{Item, item_text, items_text, newline}
use Rattle.kat_hist.proofs.KeptLines.{packet_word}
use Rattle.kat_hist.proofs.SaidItems.{args_items, constant_items, said_items, time_items}
use Rattle.kat_hist.proofs.SaidLines.{text_items}

abbrev pub constant_of : Value → Constant
constant_of (value.Bool b) = Truth b
constant_of (value.Num (pos n)) = Natural n
constant_of (value.Num (negsuc n)) = Negated (suc n)
constant_of (value.Name code) = Named code

abbrev pub constants_of : List Value → List Constant
constants_of args = map constant_of args

abbrev pub op_code : Signature → ℕ → ℕ
op_code sig op = slice_index_or (map (λ (o : OpSig). o.name) sig.ops) op 0

abbrev pub query_code : Signature → ℕ → ℕ
query_code sig query = slice_index_or (map (λ (q : QuerySig). q.name) sig.queries) query 0

abbrev pub done_said : Signature → Done → Said
done_said sig done = Does done.replica (op_code sig done.op) (constants_of done.args) (Some done.time)

abbrev pub ask_said : Signature → Call → Said
ask_said sig ask = Asks 1 (query_code sig ask.number) (constants_of ask.args)

abbrev pub asks_said : Signature → List Said
asks_said sig = map (ask_said sig) (asks_of sig)

abbrev pub history_said : Signature → History → List Said
history_said sig history = Replicas 2 ∷ (map (done_said sig) history.ops ++ (Ships 2 packet_word ∷ Delivers packet_word 1 ∷ asks_said sig))

items_text_append : (xs ys : List Item) → items_text (xs ++ ys) ≡ items_text xs ++ items_text ys
items_text_append [] ys = refl
items_text_append (x ∷ xs) ys = ap (λ (l : List ℕ). item_text x ++ l) (items_text_append xs ys) ∙ sym (append_assoc (item_text x) (items_text xs) (items_text ys))

value_printed : (v : Value) → items_text (constant_items (constant_of v)) ≡ value_text v
value_printed (value.Bool b) = append-nil (truth_text b)
value_printed (value.Num (pos n)) = append-nil (decimal n)
value_printed (value.Num (negsuc n)) = ap (λ (l : List ℕ). 45 ∷ l) (append-nil (decimal (suc n)))
value_printed (value.Name code) = append-nil (quoted (name_of_code code))

args_printed : (args : List Value) → items_text (args_items (constants_of args)) ≡ args_text args
args_printed [] = refl
args_printed (v ∷ args) =
    ap (λ (l : List ℕ). 32 ∷ l)
    (items_text_append (constant_items (constant_of v)) (args_items (constants_of args))
    ∙ ap (λ (l : List ℕ). l ++ items_text (args_items (constants_of args))) (value_printed v)
    ∙ ap (λ (l : List ℕ). value_text v ++ l) (args_printed args))

-- the parts of a line, put together from the right and from the left
do_parts : (a r b n g c t e : List ℕ) → (a ++ (r ++ (b ++ (n ++ (g ++ (c ++ (t ++ []))))))) ++ e ≡ ((((a ++ r) ++ b) ++ n) ++ g) ++ ((c ++ t) ++ e)
do_parts a r b n g c t e =
    ap (λ (l : List ℕ). (a ++ (r ++ (b ++ (n ++ (g ++ (c ++ l)))))) ++ e) (append-nil t)
    ∙ append_assoc a (r ++ (b ++ (n ++ (g ++ (c ++ t))))) e
    ∙ ap (λ (l : List ℕ). a ++ l)
    (append_assoc r (b ++ (n ++ (g ++ (c ++ t)))) e
    ∙ ap (λ (l : List ℕ). r ++ l)
    (append_assoc b (n ++ (g ++ (c ++ t))) e ∙ ap (λ (l : List ℕ). b ++ l) (append_assoc n (g ++ (c ++ t)) e ∙ ap (λ (l : List ℕ). n ++ l) (append_assoc g (c ++ t) e))))
    ∙ sym (append_assoc (((a ++ r) ++ b) ++ n) g ((c ++ t) ++ e)
    ∙ append_assoc ((a ++ r) ++ b) n (g ++ ((c ++ t) ++ e))
    ∙ append_assoc (a ++ r) b (n ++ (g ++ ((c ++ t) ++ e)))
    ∙ append_assoc a r (b ++ (n ++ (g ++ ((c ++ t) ++ e)))))

ask_parts : (a n g e : List ℕ) → (a ++ (n ++ g)) ++ e ≡ ((a ++ n) ++ g) ++ e
ask_parts a n g e = ap (λ (l : List ℕ). l ++ e) (sym (append_assoc a n g))

do_printed : (sig : Signature) (done : Done) → items_text (said_items (done_said sig done)) ++ (10 ∷ []) ≡ do_text sig done
do_printed sig done =
    ap (λ (l : List ℕ). (codes "do " ++ (decimal done.replica ++ (codes " " ++ (op_name sig done.op ++ l)))) ++ (10 ∷ []))
    (items_text_append (args_items (constants_of done.args)) (time_items (Some done.time))
    ∙ ap (λ (l : List ℕ). l ++ (codes " at " ++ (decimal done.time ++ []))) (args_printed done.args))
    ∙ do_parts (codes "do ") (decimal done.replica) (codes " ") (op_name sig done.op) (args_text done.args) (codes " at ") (decimal done.time) (codes "\n")

one_printed : decimal 1 ≡ codes "1"
one_printed = decimal_digit 1 (omega arith)

two_printed : decimal 2 ≡ codes "2"
two_printed = decimal_digit 2 (omega arith)

ask_printed : (sig : Signature) (ask : Call) → items_text (said_items (ask_said sig ask)) ++ (10 ∷ []) ≡ ask_text sig ask
ask_printed sig ask =
    ap (λ (d : List ℕ). (codes "ask " ++ (d ++ (codes " " ++ (query_name sig ask.number ++ items_text (args_items (constants_of ask.args)))))) ++ (10 ∷ [])) one_printed ∙
    ap (λ (l : List ℕ). (codes "ask 1 " ++ (query_name sig ask.number ++ l)) ++ (10 ∷ [])) (args_printed ask.args)
    ∙ ask_parts (codes "ask 1 ") (query_name sig ask.number) (args_text ask.args) (codes "\n")

-- a line before others
line_before : (xs line rest : List ℕ) → xs ++ (10 ∷ []) ≡ line → xs ++ (10 ∷ rest) ≡ line ++ rest
line_before xs line rest e = sym (append_assoc xs (10 ∷ []) rest) ∙ ap (λ (l : List ℕ). l ++ rest) e

said_before : (said : Said) (saids : List Said) (line : List ℕ) → items_text (said_items said) ++ (10 ∷ []) ≡ line → items_text (text_items (said ∷ saids)) ≡ line ++ items_text (text_items saids)
said_before said saids line e = items_text_append (said_items said) (newline ∷ text_items saids) ∙ line_before (items_text (said_items said)) line (items_text (text_items saids)) e

dones_printed : (sig : Signature) (ops : List Done) (saids : List Said) → items_text (text_items (map (done_said sig) ops ++ saids)) ≡ flat_map (do_text sig) ops ++ items_text (text_items saids)
dones_printed sig [] saids = refl
dones_printed sig (done ∷ ops) saids =
    said_before (done_said sig done) (map (done_said sig) ops ++ saids) (do_text sig done) (do_printed sig done)
    ∙ ap (λ (l : List ℕ). do_text sig done ++ l) (dones_printed sig ops saids)
    ∙ sym (append_assoc (do_text sig done) (flat_map (do_text sig) ops) (items_text (text_items saids)))

asks_printed : (sig : Signature) (asks : List Call) → items_text (text_items (map (ask_said sig) asks)) ≡ flat_map (ask_text sig) asks
asks_printed sig [] = refl
asks_printed sig (ask ∷ asks) =
    said_before (ask_said sig ask) (map (ask_said sig) asks) (ask_text sig ask) (ask_printed sig ask) ∙ ap (λ (l : List ℕ). ask_text sig ask ++ l) (asks_printed sig asks)

packet_back : name_of_code packet_word ≡ codes "p"
packet_back = name_of_code-code_of (codes "p") (record { short = omega arith; each = refl })

told_printed : (saids : List Said) → items_text (text_items (Ships 2 packet_word ∷ Delivers packet_word 1 ∷ saids)) ≡ codes "ship 2 p\ndeliver p 1\n" ++ items_text (text_items saids)
told_printed saids =
    let rest : List ℕ = items_text (text_items saids) in
    let name : List ℕ = name_of_code packet_word in
    ap (λ (d : List ℕ). codes "ship " ++ (d ++ (codes " " ++ (name ++ (10 ∷ (codes "deliver " ++ (name ++ (codes " " ++ (decimal 1 ++ (10 ∷ rest)))))))))) two_printed
    ∙ ap (λ (d : List ℕ). codes "ship 2 " ++ (name ++ (10 ∷ (codes "deliver " ++ (name ++ (codes " " ++ (d ++ (10 ∷ rest)))))))) one_printed
    ∙ ap (λ (p : List ℕ). codes "ship 2 " ++ (p ++ (10 ∷ (codes "deliver " ++ (p ++ (codes " 1\n" ++ rest)))))) packet_back

whole_parts : (a d s k : List ℕ) → a ++ (d ++ (s ++ k)) ≡ ((a ++ d) ++ s) ++ k
whole_parts a d s k = sym (append_assoc (a ++ d) s k ∙ append_assoc a d (s ++ k))

pub history_printed : (sig : Signature) (history : History) → items_text (text_items (history_said sig history)) ≡ script_text sig history
history_printed sig history =
    ap (λ (d : List ℕ). codes "replicas " ++ (d ++ (10 ∷ items_text (text_items (map (done_said sig) history.ops ++ (Ships 2 packet_word ∷ Delivers packet_word 1 ∷ asks_said sig)))))) two_printed
    ∙ ap (λ (l : List ℕ). codes "replicas 2\n" ++ l)
    (dones_printed sig history.ops (Ships 2 packet_word ∷ Delivers packet_word 1 ∷ asks_said sig)
    ∙ ap (λ (l : List ℕ). flat_map (do_text sig) history.ops ++ l) (told_printed (asks_said sig) ∙ ap (λ (l : List ℕ). codes "ship 2 p\ndeliver p 1\n" ++ l) (asks_printed sig (asks_of sig))))
    ∙ whole_parts (codes "replicas 2\n") (flat_map (do_text sig) history.ops) (codes "ship 2 p\ndeliver p 1\n") (flat_map (ask_text sig) (asks_of sig))
