use Rattle.history_laws.proofs.NewsPlaced.{news-go_on}
use Rattle.history_laws.proofs.news.news_go_on.Goals as goal

pub returns : goal.returns
returns c = news-go_on
