use Rattle.std.proofs.Common.{◌≡◌, [], ◌∷◌, ◌++◌, ap, get_or, refl, ◌∙◌}
use Rattle.act_image.proofs.Opening.{opens}
use Rattle.act_image.proofs.image.Image.new.Goals as goal

pub returns : goal.returns
returns c =
    let rows : c.push-3.new.self.items ≡ 1 ∷ [] = c.in_ok-push-3.ensures.items ∙ ap (λ z. z ++ 1 ∷ []) c.new-rows.ensures.items in
    let nodes : c.push.new.self.items ≡ record { cell = c.root.result; first = 0; count = 0 } ∷ [] =
    c.in_ok-push.ensures.items ∙ ap (λ z. z ++ record { cell = c.root.result; first = 0; count = 0 } ∷ []) c.new-nodes.ensures.items in
    let under : c.push-2.new.self.items ≡ 0 ∷ [] = c.in_ok-push-2.ensures.items ∙ ap (λ z. z ++ 0 ∷ []) c.new-under.ensures.items in
    opens _ (ap (λ z. get_or z 0 0) rows) (nodes ∙ ap (λ z. record { cell = z; first = 0; count = 0 } ∷ []) c.root.ensures) under refl c.new.ensures.items rows
