-- What stands before and after the rows and lists of a page: its style and its script, which are the same for every report.
use Rattle.std.specs.Prelude.{ℕ, List, codes}

unfoldable pub page_head : List ℕ
page_head = codes "<!DOCTYPE html>\n<html lang='en'><head><meta charset='utf-8'><meta name='viewport' content='width=device-width'><title>stmrun</title>\n<style>\nbody{margin:1rem;font:14px/1.5 monospace;color:#24292f;background:#fff}\nmain{position:relative;overflow:auto hidden}\n.loading main{display:none}\ntable{border-spacing:0;table-layout:fixed;width:100%}\nth,td{box-sizing:border-box;padding:0 1rem 0 .6rem;text-align:left;white-space:pre;border-left:2px solid #d0d7de}\nth{width:13rem}\ntd:empty{border:0;background:repeating-linear-gradient(90deg,#d0d7de 0 2px,#0000 2px 13rem)}\ntr>th:first-child{width:5rem;text-align:right;border:0;color:#57606a;font-weight:normal}\ntbody tr{cursor:pointer}\ntr.at{background:#fff8c5}\ntr.later>*{color:#6e7781}\n.committed{color:#116329}\n.failed{color:#a40e26}\nsvg{position:absolute;left:0;top:0;pointer-events:none;fill:none;stroke:#bc4c00;stroke-width:1.5}\nul{list-style:none;padding:0}\naside{contain:content;position:sticky;bottom:0;max-height:40vh;overflow:auto;padding:.5rem;background:#f6f8fa;border-top:2px solid #d0d7de;white-space:pre-wrap}\n@media(min-width:1000px){body{display:grid;grid-template-columns:1fr 30rem;gap:0 1rem}ul{grid-row:2}aside{grid-area:1/2/span 2;align-self:start;top:1rem;max-height:95vh}}\n</style><script>document.documentElement.className = 'loading'</script></head>\n<body><main><table><thead><tr><th scope='col'>event</th>"

unfoldable pub page_foot : List ℕ
page_foot = codes "</ul>\n<aside aria-live='polite' aria-label='The store and the runners after the event'></aside>\n<script>\ndocument.documentElement.className = '';\nconst all = it => [...document.querySelectorAll(it)], rows = all('tbody tr'), titles = all('thead th').map(it => it.textContent);\nconst side = document.querySelector('aside'), main = document.querySelector('main');\nconst events = rows.map(row => {\n  const cell = row.lastChild, column = 11 - cell.colSpan, [, number, words] = (column > 9 && cell.textContent.match(/^([0-9]+): (.*)$/)) || [, '', cell.textContent];\n  return { words, runner: column == 1 ? '' : number ? 'runner ' + number : titles[column], changes: [...cell.children].map(it => it.dataset) };\n});\nlet at = rows.length;\nfunction mark(event) {\n  for (let it = Math.min(at, event); it <= Math.max(at, event); it++) {\n    rows[it - 1].className = it == event ? 'at' : it < event ? '' : 'later';\n    rows[it - 1].toggleAttribute('aria-current', it == event);\n  }\n  at = event;\n}\nfunction show(event) {\n  mark(Math.max(1, Math.min(rows.length, event)));\n  const keys = new Map(), runners = new Map();\n  events.forEach(({ words, runner, changes }, index) => {\n    if (index < at) changes.forEach(it => 'value' in it ? keys.set(it.key, it.value) : keys.delete(it.key));\n    if (!runner) return;\n    const told = runners.get(runner) || { done: [], next: '' };\n    if (index < at) told.done.push(words); else told.next ||= words;\n    runners.set(runner, told);\n  });\n  const lines = ['after event ' + at + ' of ' + rows.length + ' (arrow keys, Home, End, a click)', ''];\n  [...keys].sort().forEach(([key, value]) => lines.push(key + ' = \"' + value + '\"'));\n  runners.forEach(({ done, next }, runner) => {\n    if (done.length) lines.push('', runner, ...done.slice(-20).map(it => '  ' + it), ...(next ? ['  next: ' + next] : []));\n  });\n  side.textContent = lines.join(String.fromCharCode(10));\n}\nfunction arrows() {\n  const ns = 'http://www.w3.org/2000/svg', svg = document.createElementNS(ns, 'svg');\n  main.querySelectorAll('svg').forEach(it => it.remove());\n  const base = main.getBoundingClientRect(), spot = event => {\n    const box = rows[event - 1].lastChild.getBoundingClientRect();\n    return [box.left - base.left + main.scrollLeft + 4, box.top - base.top];\n  };\n  svg.setAttribute('aria-hidden', 'true');\n  svg.setAttribute('width', main.firstChild.offsetWidth);\n  svg.setAttribute('height', main.firstChild.offsetHeight);\n  all('li[data-from]').forEach(it => {\n    const [x1, y1] = spot(it.dataset.from), [x2, y2] = spot(it.dataset.to), path = document.createElementNS(ns, 'path');\n    path.setAttribute('d', ['M', x1, y1 + 20, 'C', x1, y2 + 10, x2 - 60, y2 + 10, x2, y2 + 10, 'm', -6, -4, 'l', 6, 4, 'l', -6, 4].join(' '));\n    svg.append(path);\n  });\n  main.append(svg);\n}\nconst steps = { ArrowDown: () => at + 1, ArrowRight: () => at + 1, ArrowUp: () => at - 1, ArrowLeft: () => at - 1, Home: () => 1, End: () => rows.length };\ndocument.addEventListener('keydown', it => {\n  if (!(it.key in steps)) return;\n  it.preventDefault();\n  show(steps[it.key]());\n  rows[at - 1].scrollIntoView({ block: 'nearest' });\n});\nrows.forEach((row, index) => row.addEventListener('click', () => show(index + 1)));\naddEventListener('resize', arrows);\nif (rows.length) { show(at); arrows(); }\n</script></body></html>\n"
