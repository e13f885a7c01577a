use Rattle.std.proofs.Common.{◌≡◌, ◌<◌, ◌+◌, ◌-◌, ◌∙◌, ◌++◌, ◌∷◌, [], ℕ, List, length, get_or, take, drop, sym, ap, arith, string_bytes, append_assoc, append-nil}
use Rattle.std.proofs.lemmas.List.{map_more, length-drop, length-take-le, length-map, take_rest, get_or-drop}
use Rattle.std.specs.List.{flat_map}
use Rattle.std.proofs.lemmas.Grind.{flat_map-append}
use Rattle.keeper_dialect.specs.Tokens.{Token, view, views}
use Rattle.keeper_dialect.specs.Lists.{source_of_token, source_text}
use Rattle.keeper_dialect.specs.declared.tokens.Token.{Token as HeldToken}
use Rattle.keeper_dialect.proofs.lists.source_text.Goals as goal

-- one token more at the end
source_push : (ts : List Token) (t : Token) → 0 < length ts → source_text (ts ++ t ∷ []) ≡ source_text ts ++ source_of_token t
source_push [] t some = absurd (omega arith)
source_push (u ∷ ts) t some = ap (λ bytes. u.text ++ bytes) (flat_map-append source_of_token ts (t ∷ []) ∙ ap (λ bytes. flat_map source_of_token ts ++ bytes) (append-nil (source_of_token t))) ∙ sym (append_assoc u.text (flat_map source_of_token ts) (source_of_token t))

step : (ts : List HeldToken) (i : ℕ) (d : HeldToken) → i < length (take (length ts - 1) (drop 1 ts)) → source_text (views (take (i + 1 + 1) ts)) ≡ source_text (views (take (i + 1) ts)) ++ source_of_token (view (get_or (take (length ts - 1) (drop 1 ts)) i d))
step ts i d within =
    let inside : i + 1 < length ts = omega (arith, ap length (take_rest ts 1), length-drop 1 ts) in
    let some : 0 < length (views (take (i + 1) ts)) = omega (arith, length-map (take (i + 1) ts) view, length-take-le (i + 1) ts (omega arith)) in
    let one : 1 + i ≡ i + 1 = omega arith in
    let item : get_or (take (length ts - 1) (drop 1 ts)) i d ≡ get_or ts (i + 1) d = ap (λ us. get_or us i d) (take_rest ts 1) ∙ get_or-drop 1 ts i d ∙ ap (λ n. get_or ts n d) one in
    ap source_text (map_more view ts (i + 1) d inside) ∙ source_push (views (take (i + 1) ts)) (view (get_or ts (i + 1) d)) some ∙ ap (λ t. source_text (views (take (i + 1) ts)) ++ source_of_token (view t)) (sym item)

pushed : (ts : List HeldToken) (i : ℕ) (d : HeldToken) (before after : List ℕ) → i < length (take (length ts - 1) (drop 1 ts)) → before ≡ source_text (views (take (i + 1) ts)) → after ≡ before ++ source_of_token (view (get_or (take (length ts - 1) (drop 1 ts)) i d)) → after ≡ source_text (views (take (i + 1 + 1) ts))
pushed ts i d before after within was more = more ∙ ap (λ bytes. bytes ++ source_of_token (view (get_or (take (length ts - 1) (drop 1 ts)) i d))) was ∙ sym (step ts i d within)

pub loop-token-preserved : goal.loop-token-preserved
loop-token-preserved c = pushed c.args.tokens.now c.loop-token.token-index _ (string_bytes c.loop-token.source) _ c.loop-token-test.true c.loop-token.invariant c.in_ok-push_source.ensures
