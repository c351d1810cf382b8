-- What the rules give to a call is one answer only.
use Rattle.std.proofs.Common.{sym, ◌∙◌}
use Rattle.page.specs.Surfaces.{Page}
use Rattle.wrap_laws.specs.Breaks.{Breaking}
use Rattle.drawings.specs.declared.Area.{Area}
use Rattle.markdown.specs.Sheets.{Sheet, Limits}
use Rattle.markdown.specs.Calls.{Call, load, switch, question, height, paint}
use Rattle.markdown.specs.Replies.{Answer, load_ended, switch_ended, question_ended, height_is, paint_ended, PageAfter, AreCopies, Gives, Same}

same_page : (b : Breaking) (a : Area) (s : Sheet) (p x y : Page) → PageAfter b a s p x → PageAfter b a s p y → AreCopies x y
same_page b a s p x y f g =
    record {
      wide = f.wide ∙ sym g.wide;
      high = f.high ∙ sym g.high;
      cells = λ i j in_width in_height. f.cells i j ∙ sym (g.cells i j);
    }

pub gives_once : (limits : Limits) (s : Sheet) (c : Call) (a b : Answer) → Gives limits s c a → Gives limits s c b → Same a b
gives_once limits s (load l) (load_ended q) (load_ended r) f g = f ∙ sym g
gives_once limits s (load l) (load_ended q) b f g = absurd g
gives_once limits s (load l) a b f g = absurd f
gives_once limits s (switch on) switch_ended switch_ended f g = tt
gives_once limits s (switch on) switch_ended b f g = absurd g
gives_once limits s (switch on) a b f g = absurd f
gives_once limits s (question e n w old) (question_ended q k) (question_ended r l) f g = (f.0 ∙ sym g.0, f.1 ∙ sym g.1)
gives_once limits s (question e n w old) (question_ended q k) b f g = absurd g
gives_once limits s (question e n w old) a b f g = absurd f
gives_once limits s (height e w) (height_is h) (height_is k) f g = f ∙ sym g
gives_once limits s (height e w) (height_is h) b f g = absurd g
gives_once limits s (height e w) a b f g = absurd f
gives_once limits s (paint e a p) (paint_ended q x) (paint_ended r y) f g = (f.0 ∙ sym g.0, same_page e a s p x y f.1 g.1)
gives_once limits s (paint e a p) (paint_ended q x) b f g = absurd g
gives_once limits s (paint e a p) c b f g = absurd f
